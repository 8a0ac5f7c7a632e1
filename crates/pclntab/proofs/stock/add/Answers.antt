use Rattle.std.proofs.Common.{◌≡◌, List, ◌∷◌, ◌++◌, ◌+◌, ℕ, [], false, ap, sym, ◌∙◌, arith, length, Vec, Global}
use Rattle.std.specs.List.{flat_map}
use Rattle.pclntab.specs.Written.{has_table, stored}
use Rattle.pclntab.specs.Stock.{tables_in, keys_in}
use Rattle.pclntab.proofs.StockLemmas.{stored_push, keys_insert, keys_push, offsets_push}
use Rattle.pclntab.proofs.stock.add.Goals as goal

abbrev items : Vec ℕ Global → List ℕ
items key = key.items

entries_are : (c : goal.In_ok-insert)
    → c.insert.new.self.entries ≡ c.args.stock.now.offsets.entries ++ (c.in_ok-key.key, c.len-offset.result) ∷ []
entries_are c =
    let absent : has_table (tables_in c.args.stock.now) c.in_ok-key.key.items ≡ false = rw c.in_ok-key.ensures.items c.requires.absent in
    c.in_ok-insert.ensures.entries ∙ keys_insert items c.in_ok-key.key c.len-offset.result c.args.stock.now.offsets.entries absent

pub returns-clause-kept : goal.returns-clause-kept
returns-clause-kept c =
    ap (keys_in items) (entries_are c)
    ∙ keys_push items c.in_ok-key.key c.len-offset.result c.args.stock.now.offsets.entries
    ∙ ap (λ table. tables_in c.args.stock.now ++ table ∷ []) c.in_ok-key.ensures.items

pub returns-clause-stock : goal.returns-clause-stock
unfolding stored
returns-clause-stock c =
    let old = c.args.stock.now.offsets.entries in
    let place : c.len-offset.result ≡ 1 + length (flat_map (λ table. table) (keys_in items old))
    = omega (arith, c.len-offset.ensures, ap length c.requires.stock.bytes) in
    record {
      bytes = c.in_ok-extend_from_slice.ensures.items
          ∙ ap (λ bytes. bytes ++ c.args.table.now) c.requires.stock.bytes
          ∙ sym (stored_push (keys_in items old) c.args.table.now)
          ∙ ap stored (sym (returns-clause-kept c));
      offsets = rw (entries_are c)
          (offsets_push items c.in_ok-key.key 1 c.len-offset.result old c.requires.stock.offsets place);
    }

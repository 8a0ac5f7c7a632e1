use Rattle.std.proofs.Common.{◌≡◌, ◌∷◌, ◌++◌, [], ℕ, List, true, false, ap, sym, ◌∙◌, Vec, Global}
use Rattle.pcvalue.specs.Writing.{table_bytes}
use Rattle.pclntab.specs.Written.{has_table, offset_of}
use Rattle.pclntab.specs.Stock.{tables_in}
use Rattle.pclntab.proofs.StockLemmas.{lookup_some, lookup_none, kept_there, kept_new, kept_short, offset_new}
use Rattle.pclntab.proofs.stock.store.Goals as goal

abbrev items : Vec ℕ Global → List ℕ
items key = key.items

pub returns-in-Some-clause-kept : goal.returns-in-Some-clause-kept
returns-in-Some-clause-kept c =
    let name : c.as_slice.result.now ≡ table_bytes c.args.quantum c.args.runs.now = c.as_slice.ensures ∙ c.in_ok-table.ensures.bytes in
    let found = lookup_some items c.as_slice.result.now c.args.stock.now.offsets.entries 1 c.in-Some.offset.now c.requires.stock.offsets (sym c.in-Some.ensures.value) in
    let has : has_table (tables_in c.args.stock.now) (table_bytes c.args.quantum c.args.runs.now) ≡ true = rw name at found.0 in
    sym (kept_there (tables_in c.args.stock.now) (table_bytes c.args.quantum c.args.runs.now) has)

pub returns-in-Some-clause-offset : goal.returns-in-Some-clause-offset
returns-in-Some-clause-offset c =
    let name : c.as_slice.result.now ≡ table_bytes c.args.quantum c.args.runs.now = c.as_slice.ensures ∙ c.in_ok-table.ensures.bytes in
    let found = lookup_some items c.as_slice.result.now c.args.stock.now.offsets.entries 1 c.in-Some.offset.now c.requires.stock.offsets (sym c.in-Some.ensures.value) in
    rw name at found.1

pub add-requires-clause-absent : goal.add-requires-clause-absent
add-requires-clause-absent c =
    let absent : has_table (tables_in c.args.stock.now) c.as_slice.result.now ≡ false
    = lookup_none items c.as_slice.result.now c.args.stock.now.offsets.entries (sym c.in-None.ensures.value) in
    rw c.as_slice-in-None.ensures (rw c.as_slice.ensures at absent)

pub add-requires-clause-short : goal.add-requires-clause-short
add-requires-clause-short c =
    kept_short (tables_in c.args.stock.now) (table_bytes c.args.quantum c.args.runs.now) c.requires.short

pub returns-clause-kept : goal.returns-clause-kept
returns-clause-kept c =
    let name : c.as_slice.result.now ≡ table_bytes c.args.quantum c.args.runs.now = c.as_slice.ensures ∙ c.in_ok-table.ensures.bytes in
    let again : c.as_slice-in-None.result.now ≡ table_bytes c.args.quantum c.args.runs.now = c.as_slice-in-None.ensures ∙ c.in_ok-table.ensures.bytes in
    let lacks : has_table (tables_in c.args.stock.now) c.as_slice.result.now ≡ false
    = lookup_none items c.as_slice.result.now c.args.stock.now.offsets.entries (sym c.in-None.ensures.value) in
    let absent : has_table (tables_in c.args.stock.now) (table_bytes c.args.quantum c.args.runs.now) ≡ false = rw name at lacks in
    c.in_ok-offset-in-None.ensures.kept
    ∙ ap (λ table. tables_in c.args.stock.now ++ table ∷ []) again
    ∙ sym (kept_new (tables_in c.args.stock.now) (table_bytes c.args.quantum c.args.runs.now) absent)

pub returns-clause-offset : goal.returns-clause-offset
returns-clause-offset c =
    let name : c.as_slice.result.now ≡ table_bytes c.args.quantum c.args.runs.now = c.as_slice.ensures ∙ c.in_ok-table.ensures.bytes in
    let again : c.as_slice-in-None.result.now ≡ table_bytes c.args.quantum c.args.runs.now = c.as_slice-in-None.ensures ∙ c.in_ok-table.ensures.bytes in
    let lacks : has_table (tables_in c.args.stock.now) c.as_slice.result.now ≡ false
    = lookup_none items c.as_slice.result.now c.args.stock.now.offsets.entries (sym c.in-None.ensures.value) in
    let absent : has_table (tables_in c.args.stock.now) (table_bytes c.args.quantum c.args.runs.now) ≡ false = rw name at lacks in
    c.in_ok-offset-in-None.ensures.offset
    ∙ offset_new (tables_in c.args.stock.now) (table_bytes c.args.quantum c.args.runs.now) absent
    ∙ ap (λ tables. offset_of tables (table_bytes c.args.quantum c.args.runs.now))
    (sym (c.in_ok-offset-in-None.ensures.kept ∙ ap (λ table. tables_in c.args.stock.now ++ table ∷ []) again))

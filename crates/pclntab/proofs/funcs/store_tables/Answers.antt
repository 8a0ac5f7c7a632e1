use Rattle.std.proofs.Common.{◌≡◌, ap, ◌∙◌}
use Rattle.pcvalue.specs.Writing.{table_bytes}
use Rattle.pclntab.specs.Written.{all_kept, kept, offset_of}
use Rattle.pclntab.specs.Stock.{tables_in}
use Rattle.pclntab.proofs.StockLemmas.{three_short, kept_short, offset_one, offset_two}
use Rattle.pclntab.proofs.funcs.store_tables.Goals as goal

pub store-requires-clause-short : goal.store-requires-clause-short
unfolding all_kept
store-requires-clause-short c =
    rw c.as_slice.ensures
    (three_short (tables_in c.args.stock.now) (table_bytes c.args.quantum c.args.func.now.depth)
    (table_bytes c.args.quantum c.args.func.now.file) (table_bytes c.args.quantum c.args.func.now.line) c.requires.pcs)

pub store-requires-2-clause-short : goal.store-requires-2-clause-short
unfolding all_kept
store-requires-2-clause-short c =
    rw (c.as_slice-2.ensures, c.in_ok-depth.ensures.kept, c.as_slice.ensures)
    (kept_short
    (kept (kept (tables_in c.args.stock.now) (table_bytes c.args.quantum c.args.func.now.depth)) (table_bytes c.args.quantum c.args.func.now.file))
    (table_bytes c.args.quantum c.args.func.now.line) c.requires.pcs)

pub returns-clause-depth : goal.returns-clause-depth
returns-clause-depth c =
    let one : tables_in c.store.new.stock ≡ kept (tables_in c.args.stock.now) (table_bytes c.args.quantum c.args.func.now.depth)
    = c.in_ok-depth.ensures.kept ∙ ap (λ runs. kept (tables_in c.args.stock.now) (table_bytes c.args.quantum runs)) c.as_slice.ensures in
    let here : c.in_ok-depth.depth
    ≡ offset_of (kept (tables_in c.args.stock.now) (table_bytes c.args.quantum c.args.func.now.depth)) (table_bytes c.args.quantum c.args.func.now.depth)
    = rw (c.as_slice.ensures, one) at c.in_ok-depth.ensures.offset in
    rw (c.in_ok-line.ensures.kept, c.as_slice-3.ensures, c.in_ok-file.ensures.kept, c.as_slice-2.ensures, one)
    (here
    ∙ offset_one (tables_in c.args.stock.now) (table_bytes c.args.quantum c.args.func.now.depth)
    (table_bytes c.args.quantum c.args.func.now.file) (table_bytes c.args.quantum c.args.func.now.line))

pub returns-clause-file : goal.returns-clause-file
returns-clause-file c =
    let two : tables_in c.store-2.new.stock ≡ kept (tables_in c.store.new.stock) (table_bytes c.args.quantum c.args.func.now.file)
    = c.in_ok-file.ensures.kept ∙ ap (λ runs. kept (tables_in c.store.new.stock) (table_bytes c.args.quantum runs)) c.as_slice-2.ensures in
    let here : c.in_ok-file.file
    ≡ offset_of (kept (tables_in c.store.new.stock) (table_bytes c.args.quantum c.args.func.now.file)) (table_bytes c.args.quantum c.args.func.now.file)
    = rw (c.as_slice-2.ensures, two) at c.in_ok-file.ensures.offset in
    rw (c.in_ok-line.ensures.kept, c.as_slice-3.ensures, two)
    (here
    ∙ offset_two (tables_in c.store.new.stock) (table_bytes c.args.quantum c.args.func.now.file) (table_bytes c.args.quantum c.args.func.now.line))

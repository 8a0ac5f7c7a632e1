use Rattle.link_tables.proofs.RowLemmas.{Rowed}
use Rattle.link_tables.proofs.rows.rows_of.Given as goal

abbrev pub invariant-loop-index : goal.invariant-loop-index
invariant-loop-index g l = Rowed l.func.lines.now l.func.places.now l.func.length l.index l.rows.items

use Rattle.link_tables.proofs.MergedLemmas.{Merged}
use Rattle.link_tables.proofs.runs.merge.Given as goal

abbrev pub invariant-loop-stretch : goal.invariant-loop-stretch
invariant-loop-stretch l = Merged l.fn.first l.others l.stretch-index l.last l.runs.items

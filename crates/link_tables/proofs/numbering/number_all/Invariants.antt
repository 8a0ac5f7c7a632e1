use Rattle.link_tables.proofs.NumberingLemmas.{Counted}
use Rattle.link_tables.proofs.numbering.number_all.Given as goal

abbrev pub invariant-loop-func : goal.invariant-loop-func
invariant-loop-func g l = Counted l.initial.files l.files l.funcs l.func-index

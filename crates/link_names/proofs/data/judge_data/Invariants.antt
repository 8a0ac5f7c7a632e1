use Rattle.link_names.specs.Data.{unit_misplaced}
use Rattle.link_names.proofs.EachLemmas.{NoneMade}
use Rattle.link_names.proofs.data.judge_data.Given as goal

abbrev pub invariant-loop-number : goal.invariant-loop-number
invariant-loop-number l = NoneMade (unit_misplaced l.units l.names) l.units l.number

use Rattle.link_names.specs.Data.{part_misplaced}
use Rattle.link_names.proofs.EachLemmas.{NoneMade}
use Rattle.link_names.proofs.data.judge_parts.Given as goal

abbrev pub invariant-loop-part : goal.invariant-loop-part
invariant-loop-part l = NoneMade (part_misplaced l.units l.names l.unit l.symbols) l.parts l.part-index

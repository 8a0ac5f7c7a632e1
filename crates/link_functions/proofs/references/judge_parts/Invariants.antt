use Rattle.link_names.proofs.EachLemmas.{NoneMade}
use Rattle.link_functions.specs.References.{part_undefined}
use Rattle.link_functions.proofs.references.judge_parts.Given as goal

abbrev pub invariant-loop-part : goal.invariant-loop-part
invariant-loop-part g l = NoneMade (part_undefined l.names l.unit l.symbols) l.parts l.part-index

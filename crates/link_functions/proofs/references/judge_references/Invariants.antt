use Rattle.link_names.proofs.EachLemmas.{NoneMade}
use Rattle.link_functions.specs.References.{code_undefined}
use Rattle.link_functions.proofs.references.judge_references.Given as goal

abbrev pub invariant-loop-number : goal.invariant-loop-number
invariant-loop-number g l = NoneMade (code_undefined l.names) l.code l.number

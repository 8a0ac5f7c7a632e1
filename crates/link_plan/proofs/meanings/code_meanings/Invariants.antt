use Rattle.std.proofs.Common.{◌≡◌, ◌++◌}
use Rattle.link_values.proofs.EachLemmas.{Rest}
use Rattle.link_plan.specs.Addresses as spec
use Rattle.link_plan.proofs.meanings.code_meanings.Given as goal

abbrev pub invariant-loop-number : goal.invariant-loop-number
invariant-loop-number g l = l.meanings.items ++ Rest spec.unit_meanings l.code l.number ≡ spec.code_meanings l.code

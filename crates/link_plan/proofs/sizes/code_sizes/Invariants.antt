use Rattle.std.proofs.Common.{◌≡◌, ◌++◌}
use Rattle.link_values.proofs.EachLemmas.{Rest}
use Rattle.link_plan.specs.Sizes as spec
use Rattle.link_plan.proofs.sizes.code_sizes.Given as goal

abbrev pub invariant-loop-unit : goal.invariant-loop-unit
invariant-loop-unit g l = l.sizes.items ++ Rest spec.unit_sizes l.code l.unit-index ≡ spec.code_sizes l.code

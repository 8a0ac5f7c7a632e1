use Rattle.std.proofs.Common.{◌≡◌, ◌++◌, drop}
use Rattle.link_plan.specs.Sizes as spec
use Rattle.link_plan.proofs.sizes.push_sizes.Given as goal

abbrev pub invariant-loop-part : goal.invariant-loop-part
invariant-loop-part g l = l.sizes.items ++ spec.part_sizes (drop l.part-index l.parts) ≡ l.initial.sizes.items ++ spec.part_sizes l.parts

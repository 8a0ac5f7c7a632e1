use Rattle.std.proofs.Common.{◌≡◌, ◌++◌, drop}
use Rattle.link_plan.specs.Addresses as spec
use Rattle.link_plan.proofs.meanings.push_meanings.Given as goal

abbrev pub invariant-loop-part : goal.invariant-loop-part
invariant-loop-part g l =
    l.meanings.items ++ spec.part_meanings l.unit (drop l.part-index l.parts) ≡ l.initial.meanings.items ++ spec.part_meanings l.unit l.parts

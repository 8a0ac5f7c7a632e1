use Rattle.std.proofs.Common.{◌++◌}
use Rattle.link_places.specs.Addresses.{TellsAs}
use Rattle.link_values.proofs.EachLemmas.{Rest}
use Rattle.link_plan.specs.Addresses.{outside_address, outside_addresses}
use Rattle.link_plan.proofs.addressing.tell_outside.Given as goal

abbrev pub invariant-loop-number : goal.invariant-loop-number
invariant-loop-number l =
    TellsAs (l.addresses ++ Rest outside_address l.outside l.number) (l.initial.addresses ++ outside_addresses l.outside)

use Rattle.std.proofs.Common.{◌++◌, drop}
use Rattle.link_places.specs.Addresses.{TellsAs}
use Rattle.link_plan.specs.Addresses.{behind}
use Rattle.link_plan.proofs.addressing.tell.Given as goal

abbrev pub invariant-loop-number : goal.invariant-loop-number
invariant-loop-number l =
    TellsAs (l.addresses ++ behind l.from (drop l.number l.meanings) (drop l.number l.at)) (l.initial.addresses ++ behind l.from l.meanings l.at)

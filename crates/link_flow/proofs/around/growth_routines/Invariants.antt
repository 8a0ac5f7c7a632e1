use Rattle.std.proofs.Common.{◌≡◌, take}
use Rattle.link_flow.specs.Around.{growth_of}
use Rattle.link_flow.proofs.around.growth_routines.Given as goal

abbrev pub invariant-loop-name : goal.invariant-loop-name
invariant-loop-name l = l.found.items ≡ growth_of (take l.name-index l.outside)

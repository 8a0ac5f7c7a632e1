use Rattle.std.proofs.Common.{◌≡◌, take}
use Rattle.link_flow.specs.Around.{addresses_of}
use Rattle.link_flow.proofs.around.addresses.Given as goal

abbrev pub invariant-loop-name : goal.invariant-loop-name
invariant-loop-name l = l.found.items ≡ addresses_of (take l.name-index l.outside)

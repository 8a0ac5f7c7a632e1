use Rattle.std.proofs.Common.{◌≡◌, ◌+◌, map, take}
use Rattle.link_plan.specs.Addresses.{text_address}
use Rattle.link_flow.proofs.around.entries.Given as goal

abbrev pub invariant-loop-place : goal.invariant-loop-place
invariant-loop-place l = l.found.items ≡ map (λ place. text_address + place) (take l.place-index l.at)

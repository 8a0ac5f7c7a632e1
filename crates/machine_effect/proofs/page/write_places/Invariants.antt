use Rattle.std.proofs.Common.{◌≡◌, ℕ, ◌-◌, slice_get, if◌then◌else◌}
use Rattle.machine_effect.specs.Memory.{is_within}
use Rattle.machine_effect.specs.Page.{at_place}
use Rattle.machine_effect.proofs.page.write_places.Given as goal

abbrev pub invariant-loop-i : goal.invariant-loop-i
invariant-loop-i l =
    (k : ℕ) → at_place l.places k ≡ (if is_within l.start l.i k then slice_get l.bytes (k - l.start) else at_place l.initial.places k)

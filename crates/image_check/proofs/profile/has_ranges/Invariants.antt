use Rattle.std.proofs.Common.{ℕ, ◌<◌}
use Rattle.image_check.specs.Profile.{HasRange}
use Rattle.image_check.proofs.profile.has_ranges.Given as goal

abbrev pub invariant-loop-index : goal.invariant-loop-index
invariant-loop-index l = (index : ℕ) → index < l.index → HasRange l.image index

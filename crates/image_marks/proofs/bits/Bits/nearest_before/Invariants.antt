use Rattle.std.proofs.Common.{◌≡◌, ℕ, false, ◌+◌, ◌<◌}
use Rattle.image_marks.specs.Bits.{has}
use Rattle.image_marks.proofs.bits.Bits.nearest_before.Given as goal

abbrev pub invariant-loop-back : goal.invariant-loop-back
invariant-loop-back l = (number : ℕ) → number < l.before → l.before < number + l.back → has l.self number ≡ false

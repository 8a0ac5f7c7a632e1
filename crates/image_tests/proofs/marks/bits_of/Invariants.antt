use Rattle.std.proofs.Common.{◌≤◌}
use Rattle.image_marks.specs.Bits.{room}
use Rattle.image_tests.proofs.marks.bits_of.Given as goal

abbrev pub invariant-loop-number : goal.invariant-loop-number
invariant-loop-number l = 256 ≤ room l.bits

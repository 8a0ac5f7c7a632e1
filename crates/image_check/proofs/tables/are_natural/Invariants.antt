use Rattle.std.proofs.Common.{take}
use Rattle.image_check.specs.Tables.{AreNatural}
use Rattle.image_check.proofs.tables.are_natural.Given as goal

abbrev pub invariant-loop-number : goal.invariant-loop-number
invariant-loop-number l = AreNatural (take l.number-index l.numbers)

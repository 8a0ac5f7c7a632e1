use Rattle.std.proofs.Common.{◌≡◌, pos, map, take}
use Rattle.image_check.proofs.tables.naturals.Given as goal

abbrev pub invariant-loop-number : goal.invariant-loop-number
invariant-loop-number l = take l.number-index l.numbers ≡ map pos l.same.items

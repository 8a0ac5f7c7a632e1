use Rattle.std.proofs.Common.{All, take}
use Rattle.image_check.specs.Tables.{IsFile}
use Rattle.image_check.proofs.tables.are_files.Given as goal

abbrev pub invariant-loop-number : goal.invariant-loop-number
invariant-loop-number l = All (IsFile l.table l.index) (take l.number-index l.numbers)

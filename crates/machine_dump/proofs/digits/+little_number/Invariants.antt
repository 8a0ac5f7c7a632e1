use Rattle.std.proofs.Common.{length}
use Rattle.machine_dump.proofs.digits.+little_number.Given as goal

abbrev pub decreases-little_number : goal.decreases-little_number
decreases-little_number l = length l.digits.now

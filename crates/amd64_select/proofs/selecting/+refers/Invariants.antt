use Rattle.std.proofs.Common.{length}
use Rattle.amd64_select.proofs.selecting.+refers.Given as goal

abbrev pub decreases-refers : goal.decreases-refers
decreases-refers l = length l.operands.now

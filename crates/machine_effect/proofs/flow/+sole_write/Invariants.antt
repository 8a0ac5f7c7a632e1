use Rattle.std.proofs.Common.{length}
use Rattle.machine_effect.proofs.flow.+sole_write.Given as goal

abbrev pub decreases-sole_write : goal.decreases-sole_write
decreases-sole_write l = length l.writes.now

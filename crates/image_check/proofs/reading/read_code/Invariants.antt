use Rattle.std.proofs.Common.{◌≤◌, length, ◌-◌}
use Rattle.image_check.specs.Code.{IsCodeTo}
use Rattle.image_check.proofs.reading.read_code.Given as goal

abbrev pub invariant-loop-found : goal.invariant-loop-found
invariant-loop-found g l =
    IsCodeTo g.T.Processor.instructions g.T.Processor.fits l.own l.entry l.code.items l.ends.items l.size
    × (l.size ≤ length l.own)

abbrev pub decreases-loop-found : goal.decreases-loop-found
decreases-loop-found g l = length l.own - l.size

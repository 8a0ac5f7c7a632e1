use Rattle.std.proofs.Common.{◌≤◌, length}
use Rattle.text_dis.proofs.RawLemmas.{Begun}
use Rattle.text_dis.proofs.code.raw.Given as goal

abbrev pub invariant-loop-rest : goal.invariant-loop-rest
invariant-loop-rest g l =
    record {
      within : length l.rest ≤ length l.bytes;
      begun : Begun g.T.Processor.instructions g.T.Processor.fits g.T.Processor.QUANTUM l.bytes l.rest l.text;
    }

abbrev pub decreases-loop-rest : goal.decreases-loop-rest
decreases-loop-rest g l = length l.rest

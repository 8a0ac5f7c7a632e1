use Rattle.std.proofs.Common.{◌≡◌, ◌+◌, length}
use Rattle.text_dis.proofs.ListingLemmas.{Left}
use Rattle.text_dis.proofs.image.push_code.Given as goal

abbrev pub invariant-loop-found : goal.invariant-loop-found
invariant-loop-found g l = record {
  place : l.at + length l.rest ≡ l.first + length l.bytes;
  left : Left g.T.Processor.instructions g.T.Processor.fits l.bytes l.first l.fn.text l.rest l.at l.text;
}

abbrev pub decreases-loop-found : goal.decreases-loop-found
decreases-loop-found g l = length l.rest

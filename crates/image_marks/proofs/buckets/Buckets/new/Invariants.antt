use Rattle.image_marks.proofs.BucketLemmas.{AreFilled}
use Rattle.image_marks.proofs.buckets.Buckets.new.Given as goal

abbrev pub invariant-loop-bucket : goal.invariant-loop-bucket
invariant-loop-bucket l = AreFilled l.entries l.first.items l.number l.bucket

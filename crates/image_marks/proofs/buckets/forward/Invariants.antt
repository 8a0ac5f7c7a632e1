use Rattle.std.proofs.Common.{◌≤◌, ◌-◌, slice_index}
use Rattle.image_marks.proofs.buckets.forward.Given as goal

abbrev pub invariant-loop-number : goal.invariant-loop-number
invariant-loop-number l = slice_index l.entries (l.number - 1) ≤ l.offset

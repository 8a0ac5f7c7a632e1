use Rattle.image_check.specs.Marks.{begins_at, call_ends_at}
use Rattle.image_check.proofs.MarkLemmas.{HasAdded}
use Rattle.image_check.proofs.marks.Marks.add.Given as goal

abbrev pub invariant-loop-one : goal.invariant-loop-one
invariant-loop-one g l = record {
  starts : HasAdded begins_at l.code l.one-index l.initial.self.starts l.self.starts;
  ends : HasAdded (call_ends_at g.T.Processor.instructions l.growth) l.code l.one-index l.initial.self.ends l.self.ends;
}

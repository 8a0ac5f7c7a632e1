use Rattle.std.proofs.Common.{ℕ, ◌∙◌, arith}
use Rattle.std.proofs.lemmas.List.{length-set, length-replicate}
use Rattle.machine_dump.proofs.MarkLemmas.{marks_begin, marks_more}
use Rattle.machine_dump.proofs.marks.Marks.new.Goals as goal

pub loop-index-init : goal.loop-index-init
loop-index-init c = record { marks = marks_begin c.args.body.now; count = length-replicate {A = ℕ} 4096 0 }

pub loop-index-preserved : goal.loop-index-preserved
loop-index-preserved c = record {
  marks = marks_more c.args.body.now c.loop-index.starts c.loop-index.index c.start_of.result
      (omega (arith, c.loop-index-test.true, c.loop-index.invariant.count)) c.loop-index.invariant.marks
      (rw c.place_of-to.ensures at c.start_of.ensures);
  count = length-set c.loop-index.starts c.loop-index.index c.start_of.result ∙ c.loop-index.invariant.count;
}

use Rattle.std.proofs.Common.{◌≡◌}
use Rattle.image_rules.specs.Machine.{machine_of}
use Rattle.text_chain.specs.Chain.{words_of}
use Rattle.text_chain.proofs.FrameLemmas.{IsUnderway}
use Rattle.unwind.specs.Walk.{frames_left}
use Rattle.text_chain.proofs.stack.own_chain.Given as goal

abbrev pub invariant-loop-seen : goal.invariant-loop-seen
invariant-loop-seen g l =
    let machine = machine_of g.T.Processor.instructions g.T.Processor.fits g.T.Processor.MACHINE g.T.Processor.QUANTUM g.T.Processor.SHAPE
    g.T.Processor.GROWTH g.T.Target.begins in
    record {
      image : l.walker.image ≡ l.image;
      dump : l.walker.peek.dump.now ≡ l.dump;
      under : IsUnderway machine l.image (words_of l.dump) l.initial.walker.stage l.walker.stage l.text;
    }

abbrev pub decreases-loop-seen : goal.decreases-loop-seen
decreases-loop-seen g l = frames_left l.walker.stage

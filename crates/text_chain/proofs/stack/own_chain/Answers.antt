use Rattle.std.proofs.Common.{refl, sym, ap, ◌∙◌}
use Rattle.image_rules.specs.Machine.{machine_of}
use Rattle.text_chain.specs.Chain.{words_of}
use Rattle.text_chain.proofs.FrameLemmas.{begun, gone_on, is_walk, next_here}
use Rattle.unwind.specs.declared.walked.Walked.TheVariants as answers
use Rattle.text_chain.proofs.stack.own_chain.Goals as goal

pub loop-seen-init : goal.loop-seen-init
loop-seen-init g c =
    let machine = machine_of g.T.Processor.instructions g.T.Processor.fits g.T.Processor.MACHINE g.T.Processor.QUANTUM g.T.Processor.SHAPE
    g.T.Processor.GROWTH g.T.Target.begins in
    record {
      image = rw c.new-walker.ensures refl;
      dump = rw c.new-walker.ensures refl;
      under = rw c.new-text.ensures (begun machine c.args.image.now (words_of c.args.dump.now) c.new-walker.result.stage);
    }

pub loop-seen-preserved : goal.loop-seen-preserved
loop-seen-preserved g c =
    let machine = machine_of g.T.Processor.instructions g.T.Processor.fits g.T.Processor.MACHINE g.T.Processor.QUANTUM g.T.Processor.SHAPE
    g.T.Processor.GROWTH g.T.Target.begins in
    record {
      image = c.next.ensures.image ∙ c.loop-seen.invariant.image;
      dump = rw c.next.ensures.peek c.loop-seen.invariant.dump;
      under = gone_on machine c.args.image.now (words_of c.args.dump.now) c.new-walker.result.stage c.loop-seen.walker.stage
          c.next.new.self.stage c.loop-seen.text c.push_frame.new.text c.in-Frame.seen c.loop-seen.invariant.under
          (next_here machine c.args.image.now (words_of c.args.dump.now) c.new-walker.result.stage c.loop-seen.walker.image
          (words_of c.loop-seen.walker.peek.dump.now) c.loop-seen.walker.stage c.next.new.self.stage c.loop-seen.invariant.image
          (ap words_of c.loop-seen.invariant.dump) c.next.ensures.step)
          (sym c.next.ensures.answer ∙ c.in-Frame.is) c.in_ok-push_frame-in-Frame.ensures;
    }

pub returns-in-End-clause-text : goal.returns-in-End-clause-text
returns-in-End-clause-text g c =
    let machine = machine_of g.T.Processor.instructions g.T.Processor.fits g.T.Processor.MACHINE g.T.Processor.QUANTUM g.T.Processor.SHAPE
    g.T.Processor.GROWTH g.T.Target.begins in
    record {
      own = c.requires.own;
      frames = c.loop-seen.invariant.under.frames;
      walk = is_walk machine c.args.image.now c.args.dump.now c.pc.result c.sp.result c.link.result c.new-walker.result.stage
          c.loop-seen.walker.stage c.next.new.self.stage c.loop-seen.text answers.End c.sound.ensures c.pc.ensures c.sp.ensures c.link.ensures
          (rw c.new-walker.ensures refl) c.loop-seen.invariant.under
          (next_here machine c.args.image.now (words_of c.args.dump.now) c.new-walker.result.stage c.loop-seen.walker.image
          (words_of c.loop-seen.walker.peek.dump.now) c.loop-seen.walker.stage c.next.new.self.stage c.loop-seen.invariant.image
          (ap words_of c.loop-seen.invariant.dump) c.next.ensures.step)
          (sym c.next.ensures.answer ∙ c.in-End.is);
      says = c.finish.ensures ∙ c.loop-seen.invariant.under.says;
    }

pub returns-in-No-clause-refused : goal.returns-in-No-clause-refused
returns-in-No-clause-refused g c = λ other.
    let machine = machine_of g.T.Processor.instructions g.T.Processor.fits g.T.Processor.MACHINE g.T.Processor.QUANTUM g.T.Processor.SHAPE
    g.T.Processor.GROWTH g.T.Target.begins in (
      c.requires.own,
      c.loop-seen.invariant.under.frames,
      is_walk machine c.args.image.now c.args.dump.now c.pc.result c.sp.result c.link.result c.new-walker.result.stage
          c.loop-seen.walker.stage c.next.new.self.stage c.loop-seen.text (answers.No c.in-No.refusal) c.sound.ensures c.pc.ensures c.sp.ensures
          c.link.ensures (rw c.new-walker.ensures refl) c.loop-seen.invariant.under
          (next_here machine c.args.image.now (words_of c.args.dump.now) c.new-walker.result.stage c.loop-seen.walker.image
          (words_of c.loop-seen.walker.peek.dump.now) c.loop-seen.walker.stage c.next.new.self.stage c.loop-seen.invariant.image
          (ap words_of c.loop-seen.invariant.dump) c.next.ensures.step)
          (sym c.next.ensures.answer ∙ c.in-No.is),
    )

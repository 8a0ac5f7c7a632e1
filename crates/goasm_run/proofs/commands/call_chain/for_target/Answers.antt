use Rattle.image_rules.specs.Machine.{machine_of}
use Rattle.goasm_run.proofs.UnwindLemmas.{stopped_over_sound, text_over_sound}
use Rattle.goasm_run.proofs.commands.call_chain.for_target.Goals as goal

pub returns-clause-text : goal.returns-clause-text
returns-clause-text g c =
    let machine = machine_of g.T.Processor.instructions g.T.Processor.fits g.T.Processor.MACHINE g.T.Processor.QUANTUM g.T.Processor.SHAPE
    g.T.Processor.GROWTH g.T.Target.begins in
    text_over_sound machine c.args.name.now c.args.dump_name.now c.args.image.now c.args.dump.now c.over_image.result
    c.in_ok-image.ensures.sound (rw c.in_ok-image.ensures.image at c.over_image.ensures.text)

pub returns-clause-stopped : goal.returns-clause-stopped
returns-clause-stopped g c =
    let machine = machine_of g.T.Processor.instructions g.T.Processor.fits g.T.Processor.MACHINE g.T.Processor.QUANTUM g.T.Processor.SHAPE
    g.T.Processor.GROWTH g.T.Target.begins in
    stopped_over_sound machine c.args.name.now c.args.dump_name.now c.args.image.now c.args.dump.now c.over_image.result
    c.in_ok-image.ensures.sound (rw c.in_ok-image.ensures.image at c.over_image.ensures.stopped)

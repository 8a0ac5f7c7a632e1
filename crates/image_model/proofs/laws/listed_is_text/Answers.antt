use Rattle.image_model.proofs.ListedLemmas.{machine_is, text_is}
use Rattle.image_model.proofs.laws.listed_is_text.Goals as goal

pub returns-clause-text : goal.returns-clause-text
returns-clause-text g c = λ out count functions are.
    text_is g.T.Processor.instructions g.T.Processor.fits g.T.Processor.MACHINE g.T.Processor.QUANTUM g.T.Processor.SHAPE g.T.Processor.GROWTH
    g.T.Target.begins g.met.T.Processor.architecture g.met.T.Target.apart g.met.T.Target.acts g.met.T.Processor.only_goes
    g.met.T.Processor.links out count functions are

pub returns-clause-machine : goal.returns-clause-machine
returns-clause-machine g c = λ out count functions are.
    machine_is g.T.Processor.instructions g.T.Processor.fits g.T.Processor.MACHINE g.T.Processor.QUANTUM g.T.Processor.SHAPE g.T.Processor.GROWTH
    g.T.Target.begins g.met.T.Processor.architecture g.met.T.Target.apart g.met.T.Target.acts g.met.T.Processor.only_goes
    g.met.T.Processor.links out count functions are

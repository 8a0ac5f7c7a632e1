use Rattle.image_rules.specs.Machine.{machine_of}
use Rattle.image_rules.proofs.RefusalLemmas.{one_cause}
use Rattle.image_rules.proofs.laws.one_refusal.Goals as goal

pub returns : goal.returns
returns g c = λ bytes.
    one_cause
    (machine_of g.T.Processor.instructions g.T.Processor.fits g.T.Processor.MACHINE g.T.Processor.QUANTUM g.T.Processor.SHAPE
    g.T.Processor.GROWTH g.T.Target.begins)
    bytes g.met.T.Processor.prefix_free g.met.T.Processor.lengths c.values_are_settled.ensures.one

use Rattle.image_rules.specs.Machine.{machine_of}
use Rattle.image_rules.proofs.RefusalLemmas.{refused_unsound}
use Rattle.image_rules.proofs.laws.refused_is_unsound.Goals as goal

pub returns : goal.returns
returns g c = λ bytes.
    refused_unsound
    (machine_of g.T.Processor.instructions g.T.Processor.fits g.T.Processor.MACHINE g.T.Processor.QUANTUM g.T.Processor.SHAPE
    g.T.Processor.GROWTH g.T.Target.begins)
    bytes g.met.T.Processor.prefix_free g.met.T.Processor.lengths c.values_are_settled.ensures.one

use Rattle.image_rules.specs.Machine.{machine_of}
use Rattle.link_laws.proofs.MadeLemmas.{is_sound, kind_of}
use Rattle.link_laws.proofs.laws.made_is_sound.Goals as goal

pub returns : goal.returns
returns g c = λ bytes functions is.
    is_sound
    (machine_of g.T.Processor.instructions g.T.Processor.fits g.T.Processor.MACHINE g.T.Processor.QUANTUM g.T.Processor.SHAPE
    g.T.Processor.GROWTH g.T.Target.begins)
    (record {
      kind = kind_of g.T.Processor.MACHINE g.T.Processor.QUANTUM g.T.Processor.SHAPE g.T.Processor.GROWTH g.met.T.Processor.architecture;
      lengths = g.met.T.Processor.lengths;
      avoids = g.met.T.Processor.no_padding;
    })
    bytes functions is

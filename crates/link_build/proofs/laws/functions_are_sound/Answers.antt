use Rattle.unit_listing.specs.Kit.{kit_of}
use Rattle.link_build.proofs.FunctionLemmas.{all_sound}
use Rattle.link_build.proofs.laws.functions_are_sound.Goals as goal

pub returns : goal.returns
returns g c = λ build names code valid resolved.
    all_sound
    (kit_of g.T.Processor.instructions g.T.Processor.fits g.T.Processor.MACHINE g.T.Processor.QUANTUM g.T.Processor.SHAPE g.T.Target.selection
    g.T.Target.aiming g.T.Target.entry g.T.Target.check g.T.Target.begins)
    build names code valid resolved

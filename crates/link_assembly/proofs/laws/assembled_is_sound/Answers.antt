use Rattle.std.proofs.Common.{map}
use Rattle.unit_listing.specs.Kit.{kit_of}
use Rattle.link_assembly.specs.Assembly.{made_of}
use Rattle.link_assembly.proofs.AssemblyLemmas.{is_made}
use Rattle.link_assembly.proofs.laws.assembled_is_sound.Goals as goal

pub returns : goal.returns
returns g c = λ table image all bytes is.
    c.made_is_sound.ensures bytes (map made_of all)
    (is_made (kit_of g.T.Processor.instructions g.T.Processor.fits g.T.Processor.MACHINE g.T.Processor.QUANTUM g.T.Processor.SHAPE g.T.Target.selection
    g.T.Target.aiming g.T.Target.entry g.T.Target.check g.T.Target.begins) g.T.Processor.GROWTH
    (record { depths = c.lines_cover_instructions.ensures.depths; values = c.lines_cover_instructions.ensures.values })
    table image all bytes is)

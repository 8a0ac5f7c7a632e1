use Rattle.unit_listing.specs.Kit.{kit_of}
use Rattle.unit_listing.proofs.LaidLemmas.{told}
use Rattle.link_code.proofs.positions.line_of.Goals as goal

pub find_line-requires : goal.find_line-requires
find_line-requires g c =
    told (kit_of g.T.Processor.instructions g.T.Processor.fits g.T.Processor.MACHINE g.T.Processor.QUANTUM g.T.Processor.SHAPE g.T.Target.selection
    g.T.Target.aiming g.T.Target.entry g.T.Target.check g.T.Target.begins) c.requires.0 c.args.laid.now c.requires.1

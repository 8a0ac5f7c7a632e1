use Rattle.std.proofs.Common.{refl}
use Rattle.unit_listing.specs.Kit.{kit_of}
use Rattle.unit_listing.proofs.LaidLemmas.{told}
use Rattle.link_code.proofs.PositionLemmas.{within_lines}
use Rattle.link_code.proofs.positions.pos_at.Goals as goal

pub find_line-requires : goal.find_line-requires
find_line-requires g c =
    told (kit_of g.T.Processor.instructions g.T.Processor.fits g.T.Processor.MACHINE g.T.Processor.QUANTUM g.T.Processor.SHAPE g.T.Target.selection
    g.T.Target.aiming g.T.Target.entry g.T.Target.check g.T.Target.begins) c.requires.laid.0 c.args.laid.now c.requires.laid.1

pub returns-in_err-line-clause-none : goal.returns-in_err-line-clause-none
returns-in_err-line-clause-none g c = λ none.
    absurd (within_lines (kit_of g.T.Processor.instructions g.T.Processor.fits g.T.Processor.MACHINE g.T.Processor.QUANTUM g.T.Processor.SHAPE g.T.Target.selection
    g.T.Target.aiming g.T.Target.entry g.T.Target.check g.T.Target.begins)
    c.requires.placed.0 c.args.laid.now c.args.code.now c.in_ok-number.number c.in_ok-number.ensures.some.0 c.requires.placed.1
    c.in_ok-number.ensures.some.1 (c.in_err-line.ensures.none refl))

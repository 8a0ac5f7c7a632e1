use Rattle.std.proofs.Common.{◌≡◌, ◌+◌}
use Rattle.unit_listing.specs.Kit.{kit_of}
use Rattle.link_code.specs.Positions.{count_before}
use Rattle.link_code.proofs.positions.find_line.Given as goal

abbrev pub invariant-loop-line : goal.invariant-loop-line
invariant-loop-line g l =
    l.number ≡ count_before (kit_of g.T.Processor.instructions g.T.Processor.fits g.T.Processor.MACHINE g.T.Processor.QUANTUM g.T.Processor.SHAPE g.T.Target.selection
    g.T.Target.aiming g.T.Target.entry g.T.Target.check g.T.Target.begins) l.laid l.line + l.left

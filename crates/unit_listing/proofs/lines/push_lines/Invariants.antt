use Rattle.unit_listing.specs.Joined.{AreJoined, Appends}
use Rattle.unit_listing.specs.Kit.{kit_of}
use Rattle.unit_listing.specs.Lines.{IsLine}
use Rattle.unit_listing.proofs.lines.push_lines.Given as goal

abbrev pub invariant-loop-number : goal.invariant-loop-number
invariant-loop-number g l =
    Appends (AreJoined (IsLine (kit_of g.T.Processor.instructions g.T.Processor.fits g.T.Processor.MACHINE g.T.Processor.QUANTUM g.T.Processor.SHAPE g.T.Target.selection
    g.T.Target.aiming g.T.Target.entry g.T.Target.check g.T.Target.begins)
    l.symbols l.laid.flags (g.T.Target.check l.laid.body.frame) l.laid.body.code l.laid.sizes) l.number) l.fn.text l.text

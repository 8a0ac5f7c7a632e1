use Rattle.std.proofs.Common.{[]}
use Rattle.unit_listing.specs.Joined.{AreJoined, Appends}
use Rattle.unit_listing.specs.Kit.{kit_of}
use Rattle.link_code.specs.Code.{HasDepth}
use Rattle.link_code.proofs.depths.list_depths.Given as goal

abbrev pub invariant-loop-number : goal.invariant-loop-number
invariant-loop-number g l =
    Appends (AreJoined (HasDepth (kit_of g.T.Processor.instructions g.T.Processor.fits g.T.Processor.MACHINE g.T.Processor.QUANTUM g.T.Processor.SHAPE g.T.Target.selection
    g.T.Target.aiming g.T.Target.entry g.T.Target.check g.T.Target.begins)
    l.laid) l.number) [] l.depths.items

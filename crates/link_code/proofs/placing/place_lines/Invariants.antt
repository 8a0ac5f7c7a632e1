use Rattle.std.proofs.Common.{[]}
use Rattle.unit_listing.specs.Joined.{AreJoined}
use Rattle.unit_listing.specs.Kit.{kit_of}
use Rattle.link_code.specs.Code.{IsLine, begins_at}
use Rattle.link_code.specs.Placed.{AreAdded}
use Rattle.link_code.proofs.placing.place_lines.Given as goal

abbrev pub invariant-loop-number : goal.invariant-loop-number
invariant-loop-number g l =
    let kit = kit_of g.T.Processor.instructions g.T.Processor.fits g.T.Processor.MACHINE g.T.Processor.QUANTUM g.T.Processor.SHAPE g.T.Target.selection
    g.T.Target.aiming g.T.Target.entry g.T.Target.check g.T.Target.begins in
    AreAdded g.T.Processor.instructions g.T.Processor.fits (AreJoined (IsLine kit l.site l.laid) l.number) l.site.entry
    (begins_at kit l.site l.laid l.number) [] l.placed.items

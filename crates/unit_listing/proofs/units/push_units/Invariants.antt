use Rattle.unit_listing.specs.Joined.{AreJoined, Appends, HasAt}
use Rattle.unit_listing.specs.Kit.{kit_of}
use Rattle.unit_listing.specs.Listing.{IsUnitText}
use Rattle.unit_listing.proofs.units.push_units.Given as goal

abbrev pub invariant-loop-unit : goal.invariant-loop-unit
invariant-loop-unit g l = Appends (AreJoined (HasAt (IsUnitText (kit_of g.T.Processor.instructions g.T.Processor.fits g.T.Processor.MACHINE g.T.Processor.QUANTUM g.T.Processor.SHAPE g.T.Target.selection
    g.T.Target.aiming g.T.Target.entry g.T.Target.check g.T.Target.begins)) l.units) l.unit-index) l.fn.text l.text

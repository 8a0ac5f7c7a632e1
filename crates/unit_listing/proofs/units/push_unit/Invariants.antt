use Rattle.unit_listing.specs.Joined.{AreJoined, Appends, HasAt}
use Rattle.unit_listing.specs.Kit.{kit_of}
use Rattle.unit_listing.specs.Listing.{IsFunctionText}
use Rattle.unit_listing.proofs.units.push_unit.Given as goal

abbrev pub invariant-loop-func : goal.invariant-loop-func
invariant-loop-func g l =
    Appends (AreJoined (HasAt (IsFunctionText (kit_of g.T.Processor.instructions g.T.Processor.fits g.T.Processor.MACHINE g.T.Processor.QUANTUM g.T.Processor.SHAPE g.T.Target.selection
    g.T.Target.aiming g.T.Target.entry g.T.Target.check g.T.Target.begins) l.unit.symbols) l.unit.functions) l.func-index) l.fn.text l.text

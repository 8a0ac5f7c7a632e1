use Rattle.std.proofs.Common.{length}
use Rattle.unit_listing.specs.Kit.{kit_of}
use Rattle.link_functions.specs.Kept.{kept}
use Rattle.link_functions.proofs.PartLemmas.{HasBelow}
use Rattle.link_functions.proofs.laying.lay_functions.Given as goal

abbrev pub invariant-loop-number : goal.invariant-loop-number
invariant-loop-number g l =
    let kit = kit_of g.T.Processor.instructions g.T.Processor.fits g.T.Processor.MACHINE g.T.Processor.QUANTUM g.T.Processor.SHAPE g.T.Target.selection
    g.T.Target.aiming g.T.Target.entry g.T.Target.check g.T.Target.begins in
    HasBelow kit (length l.symbols) (kept l.names l.unit l.symbols) l.functions l.number l.parts.items

use Rattle.std.proofs.Common.{map}
use Rattle.link_build.specs.Functions.{seen}
use Rattle.unit_listing.specs.Kit.{kit_of}
use Rattle.link_flow.proofs.PlaceLemmas.{HasFirst}
use Rattle.link_flow.proofs.placing.place_all.Given as goal

abbrev pub invariant-loop-number : goal.invariant-loop-number
invariant-loop-number g l =
    let kit = kit_of g.T.Processor.instructions g.T.Processor.fits g.T.Processor.MACHINE g.T.Processor.QUANTUM g.T.Processor.SHAPE g.T.Target.selection
    g.T.Target.aiming g.T.Target.entry g.T.Target.check g.T.Target.begins in
    HasFirst kit l.names l.addresses (map seen l.funcs) l.at l.number l.symbols l.codes.items

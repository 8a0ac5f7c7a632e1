use Rattle.std.proofs.Common.{refl}
use Rattle.unit_listing.specs.Kit.{kit_of}
use Rattle.goasm_run.proofs.ListingLemmas.{listing_caused, listing_stopped}
use Rattle.goasm_run.proofs.commands.listing.of_units.Goals as goal

pub unlisted-requires-clause-cause : goal.unlisted-requires-clause-cause
unlisted-requires-clause-cause g c =
    let kit = kit_of g.T.Processor.instructions g.T.Processor.fits g.T.Processor.MACHINE g.T.Processor.QUANTUM g.T.Processor.SHAPE g.T.Target.selection
    g.T.Target.aiming g.T.Target.entry g.T.Target.check g.T.Target.begins in
    listing_caused kit c.args.units.now c.in-Err.no (c.in-Err.ensures.refused c.in-Err.no refl)

pub returns-in-Err-clause-stopped : goal.returns-in-Err-clause-stopped
returns-in-Err-clause-stopped g c =
    let kit = kit_of g.T.Processor.instructions g.T.Processor.fits g.T.Processor.MACHINE g.T.Processor.QUANTUM g.T.Processor.SHAPE g.T.Target.selection
    g.T.Target.aiming g.T.Target.entry g.T.Target.check g.T.Target.begins in
    listing_stopped kit c.args.files.now c.args.units.now c.in-Err.no c.unlisted.result
    (c.in-Err.ensures.refused c.in-Err.no refl) c.unlisted.ensures

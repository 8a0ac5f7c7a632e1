use Rattle.std.proofs.Common.{◌≡◌, Err, ap, sym, subst}
use Rattle.std.specs.Prelude.{◌≢◌}
use Rattle.unit_listing.specs.declared.listing_no.ListingNo.{ListingNo}
use Rattle.unit_listing.specs.declared.listing_no.ListingNo.TheVariants.{Memory}
use Rattle.unit_listing.specs.Kit.{kit_of}
use Rattle.unit_listing.specs.Laid.{of_sizing}
use Rattle.unit_listing.specs.Listing.{IsRefused}
use Rattle.unit_listing.proofs.LaidLemmas.{size_refused}
use Rattle.unit_listing.proofs.laid.lay.Goals as goal

pub returns-in_err-sizes-clause-refused : goal.returns-in_err-sizes-clause-refused
returns-in_err-sizes-clause-refused g c = λ no same real.
    let kit = kit_of g.T.Processor.instructions g.T.Processor.fits g.T.Processor.MACHINE g.T.Processor.QUANTUM g.T.Processor.SHAPE g.T.Target.selection
    g.T.Target.aiming g.T.Target.entry g.T.Target.check g.T.Target.begins in
    let told : no ≡ of_sizing c.in_err-sizes.field-0.0 = rw same at c.from_residual-in_err-sizes.ensures.1 in
    let some : of_sizing c.in_err-sizes.field-0.0 ≢ Memory = subst (λ (refused : ListingNo). refused ≢ Memory) told real in
    subst (IsRefused kit c.args.func.now) (sym told)
    (size_refused kit c.args.func.now c.in_ok-body.body c.in_err-sizes.field-0.0 c.in_ok-body.ensures.body
    (λ place distance is. c.in_err-sizes.ensures.out_of_reach place distance (ap Err is)) some)

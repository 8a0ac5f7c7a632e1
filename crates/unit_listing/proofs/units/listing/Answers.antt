use Rattle.std.proofs.Common.{◌≡◌, Err, rules}
use Rattle.unit_listing.specs.Kit.{kit_of}
use Rattle.unit_listing.specs.Listing.{NoIn}
use Rattle.unit_listing.proofs.JoinedLemmas.{on_err}
use Rattle.unit_listing.proofs.PlacedLemmas.{placed}
use Rattle.unit_listing.proofs.units.listing.Goals as goal

pub returns-in_err-push_units-clause-placed : goal.returns-in_err-push_units-clause-placed
returns-in_err-push_units-clause-placed g c = λ count all.
    let kit = kit_of g.T.Processor.instructions g.T.Processor.fits g.T.Processor.MACHINE g.T.Processor.QUANTUM g.T.Processor.SHAPE g.T.Target.selection
    g.T.Target.aiming g.T.Target.entry g.T.Target.check g.T.Target.begins in
    on_err (NoIn count) c.from_residual.result (λ no same.
    let told = rw same at c.from_residual.ensures.1 in
    let err : Err c.in_err-push_units.field-0.0 ≡ Err no = search rules in
    placed kit count c.args.units.now no all (λ real. c.in_err-push_units.ensures.refused no err real))

use Rattle.std.proofs.Common.{◌≡◌, Err, rules}
use Rattle.unit_listing.specs.Kit.{kit_of}
use Rattle.image_link.proofs.RefusalLemmas.{unresolved}
use Rattle.image_link.proofs.linking.link.Goals as goal

pub returns-in_err-resolved-clause-refused : goal.returns-in_err-resolved-clause-refused
returns-in_err-resolved-clause-refused g c = λ no same real.
    let kit = kit_of g.T.Processor.instructions g.T.Processor.fits g.T.Processor.MACHINE g.T.Processor.QUANTUM g.T.Processor.SHAPE g.T.Target.selection
    g.T.Target.aiming g.T.Target.entry g.T.Target.check g.T.Target.begins in
    let told = rw same at c.from_residual.ensures.1 in
    let err : Err c.in_err-resolved.field-0.0 ≡ Err no = search rules in
    unresolved kit c.args.build.now no (c.in_err-resolved.ensures.refused no err real)

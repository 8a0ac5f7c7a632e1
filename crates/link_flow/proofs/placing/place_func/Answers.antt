use Rattle.std.proofs.Common.{◌≡◌, ◌≢◌, Err, sym, ap, subst, ◌∙◌}
use Rattle.std.proofs.lemmas.Option.{slice_get_within}
use Rattle.link_build.specs.declared.link_no.LinkNo.TheVariants as numbers
use Rattle.link_build.specs.Functions.{seen}
use Rattle.link_code.specs.declared.place_no.PlaceNo.TheVariants.{Unreached}
use Rattle.unit_listing.specs.Kit.{kit_of}
use Rattle.link_flow.specs.Refusals.{IsOutOfReach, IsTooFar}
use Rattle.link_flow.proofs.placing.place_func.Goals as goal

pub out_of_reach-requires : goal.out_of_reach-requires
out_of_reach-requires g c =
    let line = c.in-Err-Unreached.line in
    let is : c.in-Err-Unreached.field-0 ≡ Unreached line = cc in
    let unreached = c.in-Err-Unreached.ensures.unreached line (ap Err is) in
    slice_get_within c.args.func.now.part.now.laid.body.code line unreached.far.line unreached.far.here

pub returns-in-Err-Unreached-clause-far : goal.returns-in-Err-Unreached-clause-far
returns-in-Err-Unreached-clause-far g c = λ no same real.
    let kit = kit_of g.T.Processor.instructions g.T.Processor.fits g.T.Processor.MACHINE g.T.Processor.QUANTUM g.T.Processor.SHAPE g.T.Target.selection
    g.T.Target.aiming g.T.Target.entry g.T.Target.check g.T.Target.begins in
    let func = seen c.args.func.now in
    let line = c.in-Err-Unreached.line in
    let is : c.in-Err-Unreached.field-0 ≡ Unreached line = cc in
    let told : c.out_of_reach.result ≡ no = cc in
    let found = c.out_of_reach.ensures (subst (λ refusal. refusal ≢ numbers.Memory) (sym told) real) in
    let far : IsTooFar kit func c.args.site.now found.0 = record {
      line = line;
      unreached = c.in-Err-Unreached.ensures.unreached line (ap Err is);
      named = found.2;
    } in
    subst (IsOutOfReach kit func c.args.site.now) (sym found.1 ∙ told) far

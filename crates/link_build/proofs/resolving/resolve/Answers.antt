use Rattle.std.proofs.Common.{refl, sym, subst}
use Rattle.std.specs.Prelude.{All}
use Rattle.link_functions.specs.Code.{IsValidCode}
use Rattle.unit_listing.specs.Kit.{kit_of}
use Rattle.link_build.specs.Resolved.{IsNamed}
use Rattle.link_build.proofs.RefusalLemmas.{listing_refused}
use Rattle.link_build.proofs.resolving.resolve.Goals as goal

pub returns-in_err-code-clause-refused : goal.returns-in_err-code-clause-refused
returns-in_err-code-clause-refused g c = λ no same real.
    let kit = kit_of g.T.Processor.instructions g.T.Processor.fits g.T.Processor.MACHINE g.T.Processor.QUANTUM g.T.Processor.SHAPE g.T.Target.selection
    g.T.Target.aiming g.T.Target.entry g.T.Target.check g.T.Target.begins in
    let told = rw same at c.from_residual-in_err-code.ensures.1 in
    let units = c.as_slice-units.ensures in
    let outside = c.as_slice.ensures in
    let named : IsNamed c.args.build.now c.in_ok-names.names
    = record {
      allowed = rw (units, outside) at c.in_ok-names.ensures.allowed;
      means = rw (units, outside) at c.in_ok-names.ensures.means;
    } in
    listing_refused kit c.args.build.now no real c.in_ok-names.names
    (record { named = named; room = rw units at c.in_ok-judge_data.ensures.room })
    c.in_err-code.field-0.0 told
    (λ fault. rw units at c.in_err-code.ensures.refused c.in_err-code.field-0.0 refl fault)

pub judge_references-requires-clause-valid : goal.judge_references-requires-clause-valid
judge_references-requires-clause-valid g c = subst (All IsValidCode) (sym c.as_slice-2.ensures.value) c.in_ok-code.ensures.valid

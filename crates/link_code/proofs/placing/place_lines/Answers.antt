use Rattle.std.proofs.Common.{◌≡◌, ◌+◌, [], Err, length, ap, sym, arith}
use Rattle.unit_listing.specs.Kit.{kit_of}
use Rattle.link_code.specs.declared.place_no.PlaceNo.TheVariants.{Unreached}
use Rattle.link_code.specs.Code.{IsLine, begins_at}
use Rattle.link_code.proofs.AddedLemmas.{more_added}
use Rattle.link_code.proofs.WholeLemmas.{first_far, no_lines, whole}
use Rattle.link_code.proofs.placing.place_lines.Goals as goal

pub loop-number-init : goal.loop-number-init
loop-number-init g c =
    let kit = kit_of g.T.Processor.instructions g.T.Processor.fits g.T.Processor.MACHINE g.T.Processor.QUANTUM g.T.Processor.SHAPE g.T.Target.selection
    g.T.Target.aiming g.T.Target.entry g.T.Target.check g.T.Target.begins in
    no_lines kit c.args.site.now c.args.laid.now c.new-placed.result.items c.new-placed.ensures.items

pub loop-number-preserved : goal.loop-number-preserved
loop-number-preserved g c =
    let kit = kit_of g.T.Processor.instructions g.T.Processor.fits g.T.Processor.MACHINE g.T.Processor.QUANTUM g.T.Processor.SHAPE g.T.Target.selection
    g.T.Target.aiming g.T.Target.entry g.T.Target.check g.T.Target.begins in
    let site = c.args.site.now in
    let laid = c.args.laid.now in
    let number = c.loop-number.number in
    more_added g.T.Processor.instructions g.T.Processor.fits (IsLine kit site laid) number site.entry (begins_at kit site laid number)
    (begins_at kit site laid (number + 1)) [] c.loop-number.placed.items c.push_line.new.placed.items c.loop-number.invariant
    c.in_ok-push_line.ensures.ok

pub returns-in_err-push_line-clause-unreached : goal.returns-in_err-push_line-clause-unreached
returns-in_err-push_line-clause-unreached g c = λ number same.
    let kit = kit_of g.T.Processor.instructions g.T.Processor.fits g.T.Processor.MACHINE g.T.Processor.QUANTUM g.T.Processor.SHAPE g.T.Target.selection
    g.T.Target.aiming g.T.Target.entry g.T.Target.check g.T.Target.begins in
    let told : Unreached number ≡ c.in_err-push_line.field-0.0 = rw same at c.from_residual.ensures.1 in
    let far = c.in_err-push_line.ensures.far number (ap Err (sym told)) in
    first_far kit c.args.site.now c.args.laid.now number c.loop-number.number c.loop-number.placed.items far.0 far.1 c.loop-number.invariant

pub returns-clause-code : goal.returns-clause-code
returns-clause-code g c =
    let kit = kit_of g.T.Processor.instructions g.T.Processor.fits g.T.Processor.MACHINE g.T.Processor.QUANTUM g.T.Processor.SHAPE g.T.Target.selection
    g.T.Target.aiming g.T.Target.entry g.T.Target.check g.T.Target.begins in
    let count : c.loop-number.number ≡ length c.args.laid.now.body.code
    = omega (arith, ap length c.as_slice-number-end.ensures) in
    whole kit c.args.site.now c.args.laid.now c.requires.ready g.met.T.Target.formed c.loop-number.number c.loop-number.placed.items count
    c.loop-number.invariant

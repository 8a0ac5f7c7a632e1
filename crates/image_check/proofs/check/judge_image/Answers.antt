use Rattle.std.proofs.Common.{ℕ, List, subst}
use Rattle.std.proofs.lemmas.Result.{err_from_is_err_and}
use Rattle.image_rules.specs.Machine.{machine_of}
use Rattle.image_rules.specs.Refusals.{IsRefused}
use Rattle.image_check.proofs.CheckLemmas.{ready_for}
use Rattle.image_check.proofs.check.judge_image.Goals as goal

pub new-requires : goal.new-requires
new-requires g c =
    let machine = machine_of g.T.Processor.instructions g.T.Processor.fits g.T.Processor.MACHINE g.T.Processor.QUANTUM
    g.T.Processor.SHAPE g.T.Processor.GROWTH g.T.Target.begins in
    let are = c.in-Ok.ensures in
    let ready = ready_for machine c.args.bytes.now c.in-Ok.parts.0 c.in-Ok.parts.1 are.image are.table are.readable c.requires in
    record { image = ready.readable.image; short = ready.short; form = ready.readable.table; table = ready.told }

pub judge_all-requires : goal.judge_all-requires
judge_all-requires g c =
    let machine = machine_of g.T.Processor.instructions g.T.Processor.fits g.T.Processor.MACHINE g.T.Processor.QUANTUM
    g.T.Processor.SHAPE g.T.Processor.GROWTH g.T.Target.begins in
    let are = c.in-Ok.ensures in
    let ready = ready_for machine c.args.bytes.now c.in-Ok.parts.0 c.in-Ok.parts.1 are.image are.table are.readable c.requires in
    record { readable = ready.readable; short = ready.short; table = ready.told; surroundings = c.in-Ok-new.ensures }

pub returns-in_err-marks-clause-refused : goal.returns-in_err-marks-clause-refused
returns-in_err-marks-clause-refused g c =
    let machine = machine_of g.T.Processor.instructions g.T.Processor.fits g.T.Processor.MACHINE g.T.Processor.QUANTUM
    g.T.Processor.SHAPE g.T.Processor.GROWTH g.T.Target.begins in
    let p = err_from_is_err_and c.from_residual.result c.from_residual.ensures.1 in
    rw (p.1, p.2) (λ other. subst (λ (xs : List ℕ). IsRefused machine xs c.in_err-marks.field-0.0) c.in-Ok.ensures.image
    (c.in_err-marks.ensures.refused other))

use Rattle.std.proofs.Common.{Some, None, ap, sym, ◌∙◌}
use Rattle.goasm_run.specs.declared.architecture.Architecture.TheVariants.{Amd64}
use Rattle.goasm_run.specs.Unwind.{unwind_answer}
use Rattle.goasm_run.proofs.ImageLemmas.{settles_refused}
use Rattle.goasm_run.proofs.ListingLemmas.{only_amd64}
use Rattle.goasm_run.proofs.UnwindLemmas.{settles_chain, short_enough, too_long}
use Rattle.goasm_run.proofs.commands.call_chain.answer.Goals as goal

pub returns-then-image-gt-IMAGE : goal.returns-then-image-gt-IMAGE
returns-then-image-gt-IMAGE c =
    settles_refused (unwind_answer c.args.name.now c.args.dump_name.now c.args.image.now c.args.dump.now) _ c.in_ok-too_long.field-0
    (too_long c.args.name.now c.args.dump_name.now c.args.image.now c.args.dump.now c.if-image-gt-IMAGE.true) c.in_ok-too_long.ensures

pub returns-in-Some-Amd64 : goal.returns-in-Some-Amd64
returns-in-Some-Amd64 c =
    settles_chain (unwind_answer c.args.name.now c.args.dump_name.now c.args.image.now c.args.dump.now)
    c.args.name.now c.args.dump_name.now c.args.image.now c.args.dump.now c.for_target.result
    (short_enough c.args.name.now c.args.dump_name.now c.args.image.now c.args.dump.now (Some Amd64) c.if-image-gt-IMAGE.false
    (ap Some (sym (only_amd64 c.in-Some-Amd64.field-0)) ∙ c.in-Some-Amd64.ensures))
    c.for_target.ensures.text c.for_target.ensures.stopped

pub returns-in_ok-image-in-None : goal.returns-in_ok-image-in-None
returns-in_ok-image-in-None c =
    settles_refused (unwind_answer c.args.name.now c.args.dump_name.now c.args.image.now c.args.dump.now) _ c.in_ok-image-in-None.field-0
    (short_enough c.args.name.now c.args.dump_name.now c.args.image.now c.args.dump.now None c.if-image-gt-IMAGE.false c.in-None.ensures)
    c.in_ok-image-in-None.ensures

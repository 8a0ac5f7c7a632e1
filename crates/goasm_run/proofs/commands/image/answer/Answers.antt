use Rattle.goasm_run.specs.declared.architecture.Architecture.TheVariants.{Amd64}
use Rattle.std.proofs.Common.{Some, None, ap, sym, ◌∙◌}
use Rattle.goasm_run.specs.Images.{image_answer}
use Rattle.goasm_run.proofs.ImageLemmas.{settles_image, settles_refused, short_enough, too_long}
use Rattle.goasm_run.proofs.ListingLemmas.{only_amd64}
use Rattle.goasm_run.proofs.commands.image.answer.Goals as goal

pub returns-then-bytes-gt-IMAGE : goal.returns-then-bytes-gt-IMAGE
returns-then-bytes-gt-IMAGE c =
    settles_refused (image_answer c.args.said c.args.name.now c.args.bytes.now) _ c.in_ok-too_long.field-0
    (too_long c.args.said c.args.name.now c.args.bytes.now c.if-bytes-gt-IMAGE.true) c.in_ok-too_long.ensures

pub returns-in-Some-Amd64 : goal.returns-in-Some-Amd64
returns-in-Some-Amd64 c =
    settles_image (image_answer c.args.said c.args.name.now c.args.bytes.now) c.args.said c.args.name.now c.args.bytes.now c.for_target.result
    (short_enough c.args.said c.args.name.now c.args.bytes.now (Some Amd64) c.if-bytes-gt-IMAGE.false
    (ap Some (sym (only_amd64 c.in-Some-Amd64.field-0)) ∙ c.in-Some-Amd64.ensures))
    c.for_target.ensures.text c.for_target.ensures.stopped

pub returns-in_ok-image-in-None : goal.returns-in_ok-image-in-None
returns-in_ok-image-in-None c =
    settles_refused (image_answer c.args.said c.args.name.now c.args.bytes.now) _ c.in_ok-image-in-None.field-0
    (short_enough c.args.said c.args.name.now c.args.bytes.now None c.if-bytes-gt-IMAGE.false c.in-None.ensures)
    c.in_ok-image-in-None.ensures

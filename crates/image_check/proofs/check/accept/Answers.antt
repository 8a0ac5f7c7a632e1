use Rattle.std.proofs.Common.{◌≢◌}
use Rattle.std.proofs.lemmas.Result.{IfErr-weaker}
use Rattle.image_rules.specs.declared.check_no.CheckNo.{CheckNo}
use Rattle.image_rules.specs.declared.check_no.CheckNo.TheVariants as numbers
use Rattle.image_rules.specs.Machine.{machine_of}
use Rattle.image_rules.specs.Refusals.{IsRefused}
use Rattle.image_rules.specs.Sound.{IsSoundImage}
use Rattle.image_check.proofs.check.accept.Goals as goal

pub returns-clause-unsound : goal.returns-clause-unsound
returns-clause-unsound g c =
    let machine = machine_of g.T.Processor.instructions g.T.Processor.fits g.T.Processor.MACHINE g.T.Processor.QUANTUM
    g.T.Processor.SHAPE g.T.Processor.GROWTH g.T.Target.begins in
    let Refused : CheckNo → Type 0 = λ refusal. refusal ≢ numbers.Memory → IsRefused machine c.args.bytes.now refusal in
    let Unsound : CheckNo → Type 0 = λ refusal. refusal ≢ numbers.Memory → ¬ IsSoundImage machine c.args.bytes.now in
    IfErr-weaker c.judge_image.result Refused Unsound
    (λ refusal refused other. c.refused_is_unsound.ensures c.args.bytes.now refusal (refused other)) c.judge_image.ensures.refused

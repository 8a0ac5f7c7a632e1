use Rattle.std.proofs.Common.{◌<◌, ◌^◌, is_some, length, sym, subst, arith}
use Rattle.image_rules.specs.Machine.{machine_of}
use Rattle.image_rules.specs.Parts.{count_in}
use Rattle.unwind.specs.declared.stage.Stage.{Stage}
use Rattle.unwind.specs.Looks.{IsReached}
use Rattle.unwind.specs.Walk.{FallsAt, answer_at}
use Rattle.unwind.proofs.FamilyLemmas.{families, family}
use Rattle.unwind.proofs.ReachLemmas.{fine}
use Rattle.unwind.proofs.steps.reaches.Goals as goal

pub returns : goal.returns
returns g c = λ memory from stage short reached step.
    let machine = machine_of g.T.Processor.instructions g.T.Processor.fits g.T.Processor.MACHINE g.T.Processor.QUANTUM g.T.Processor.SHAPE
    g.T.Processor.GROWTH g.T.Target.begins in
    let bytes = c.args.image.now in
    let sound = c.sound.ensures in
    let room : length bytes < 2 ^ 63 = omega arith in
    let functions = family machine bytes sound in
    let are = families machine bytes sound in
    let listed = c.sound_in_model.ensures.functions bytes sound.around functions room sound.readable sound.surrounds are in
    let model = c.sound_in_model.ensures.sound bytes sound.around functions room sound sound.surrounds are in
    subst (λ (s : Stage). IsReached bytes (is_some g.T.Processor.SHAPE.link) s × FallsAt from s (answer_at s))
    (sym (step sound.around functions sound.surrounds are))
    (fine machine bytes sound.around functions c.values_are_settled.ensures.places sound.readable.table are
    (c.listed_is_text.ensures.text sound.around (count_in bytes) functions listed) model memory from reached)

use Rattle.std.proofs.Common.{[], refl}
use Rattle.goasm_run.specs.Changes.{shelf_change}
use Rattle.goasm_run.specs.Lists.{list_answer}
use Rattle.goasm_run.specs.Parts.{ask_parts}
use Rattle.goasm_run.proofs.AnswerLemmas.{led_stopped, leads_nowhere}
use Rattle.goasm_run.proofs.BuildLemmas.{reading_stopped}
use Rattle.goasm_run.proofs.build.parts_in.Goals as goal

pub returns-in_err-list : goal.returns-in_err-list
returns-in_err-list g c =
    let shelf = shelf_change g.F.Shelf.holds g.F.Shelf.faults g.F.Shelf.reads c.args.shelf.now c.args.shelf.now in
    reading_stopped shelf (λ next. list_answer c.args.name.now (λ lines. ask_parts 1 lines [] next) c.args.bytes.now)
    c.from_residual.result c.in_err-list.field-0.0 c.from_residual.ensures.1
    (λ next.
    let plan = list_answer c.args.name.now (λ lines. ask_parts 1 lines [] next) c.args.bytes.now in
    led_stopped shelf plan plan c.in_err-list.field-0.0 (leads_nowhere shelf.holds plan shelf.reads_now) (λ name. refl)
    (c.in_err-list.ensures.stopped (λ lines. ask_parts 1 lines [] next)))

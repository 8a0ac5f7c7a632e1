use Rattle.goasm_run.specs.Builds.{build_answer}
use Rattle.goasm_run.specs.Changes.{shelf_change}
use Rattle.goasm_run.specs.Expand.{expand_judge, expand_plan}
use Rattle.goasm_run.proofs.AnswerLemmas.{stop_answers, led_settled}
use Rattle.goasm_run.proofs.commands.expand.expand.Goals as goal

pub returns-in_err-parts : goal.returns-in_err-parts
returns-in_err-parts g c =
    let shelf = shelf_change g.F.Shelf.holds g.F.Shelf.faults g.F.Shelf.reads c.args.shelf.now c.parts_of.new.shelf in
    stop_answers shelf (expand_plan c.args.list.now) c.from_residual.result c.in_err-parts.field-0.0
    c.from_residual.ensures.1 (c.in_err-parts.ensures.stopped (build_answer expand_judge c.args.list.now))

pub returns : goal.returns
returns g c =
    let shelf = shelf_change g.F.Shelf.holds g.F.Shelf.faults g.F.Shelf.reads c.args.shelf.now c.parts_of.new.shelf in
    let answer = build_answer expand_judge c.args.list.now in
    led_settled shelf (expand_plan c.args.list.now) (answer c.in_ok-parts.parts) c.over_parts.result
    (c.in_ok-parts.ensures.leads answer) c.in_ok-parts.ensures.unfailed (rw c.as_slice.ensures at c.over_parts.ensures)

use Rattle.std.specs.Vec.Iter.{into_iter_items}
use Rattle.goasm_run.proofs.AnswerLemmas.{passed_on}
use Rattle.goasm_run.proofs.PartLemmas.{parts_stopped, read_more}
use Rattle.goasm_run.proofs.parts.read_parts.Goals as goal

pub returns-in_err-number-clause-stopped : goal.returns-in_err-number-clause-stopped
returns-in_err-number-clause-stopped g c =
    passed_on c.from_residual.result c.in_err-number.field-0.0 _ c.from_residual.ensures.1
    (parts_stopped g.F.Shelf.holds g.F.Shelf.faults g.F.Shelf.reads c.args.shelf.now c.loop-line.shelf c.read_line.new.shelf
    c.args.lines.items (into_iter_items c.loop-line.line-iterator) (into_iter_items c.next.new.self)
    c.in-Some.line c.loop-line.number c.loop-line.parts.items c.in_err-number.field-0.0 c.loop-line.invariant
    c.in-Some.ensures.steps.0 c.in_err-number.ensures.stopped)

pub loop-line-preserved : goal.loop-line-preserved
loop-line-preserved g c =
    read_more g.F.Shelf.holds g.F.Shelf.faults g.F.Shelf.reads c.args.shelf.now c.loop-line.shelf c.read_line.new.shelf
    c.args.lines.items (into_iter_items c.loop-line.line-iterator) (into_iter_items c.next.new.self) c.in-Some.line
    c.loop-line.number c.in_ok-number.number c.loop-line.parts.items c.read_line.new.parts.items c.loop-line.invariant
    c.in-Some.ensures.steps.0 c.in_ok-number.ensures.leads c.in_ok-number.ensures.next c.in_ok-number.ensures.numbered
    c.in_ok-number.ensures.unfailed c.in_ok-number.ensures.same

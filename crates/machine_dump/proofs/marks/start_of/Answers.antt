use Rattle.machine_dump.proofs.MarkLemmas.{mark_found, mark_kept}
use Rattle.machine_dump.proofs.marks.start_of.Goals as goal

pub returns-in-Some : goal.returns-in-Some
returns-in-Some c =
    let found = (rw c.behind.ensures at c.in-Some.ensures) in
    mark_found c.args.body.now c.args.from c.args.to c.in-Some.place c.requires.order c.requires.inside found.0 found.1

pub returns-in-None : goal.returns-in-None
returns-in-None c =
    mark_kept c.args.body.now c.args.start c.args.from c.args.to c.requires.mark c.requires.order c.requires.inside
    (rw c.behind.ensures at c.in-None.ensures)

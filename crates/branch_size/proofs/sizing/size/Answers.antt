use Rattle.std.proofs.Common.{◌≡◌, Err, sym, ap, subst}
use Rattle.least_forms.specs.Problem.{HasRoom}
use Rattle.branch_size.specs.Rows.{AreRows, problem_of}
use Rattle.branch_size.specs.Sizing.{IsOutOfReach, branches_of}
use Rattle.branch_size.proofs.RoomLemmas.{has_room}
use Rattle.branch_size.proofs.RowLemmas.{rows_right}
use Rattle.branch_size.proofs.SizeLemmas.{same_lost, lost_line, out_of_reach}
use Rattle.branch_size.proofs.sizing.size.Goals as goal

pub least_sizes-requires-clause-fine : goal.least_sizes-requires-clause-fine
least_sizes-requires-clause-fine g c =
    let guard = g.T.Target.check c.args.body.now.frame in
    subst (AreRows g.T.Processor.instructions g.T.Processor.fits g.T.Target.aiming) (sym c.in_ok-make_rows.ensures)
    (rows_right guard c.args.body.now.code g.T.Processor.instructions g.T.Processor.fits g.T.Target.aiming c.requires.body)

pub least_sizes-requires-clause-room : goal.least_sizes-requires-clause-room
least_sizes-requires-clause-room g c =
    let set = g.T.Processor.instructions in
    let fits = g.T.Processor.fits in
    let guard = g.T.Target.check c.args.body.now.frame in
    subst (λ rows. HasRoom (problem_of set fits g.T.Target.aiming g.T.Processor.QUANTUM rows)) (sym c.in_ok-make_rows.ensures)
    (has_room set fits g.T.Target.aiming g.T.Processor.QUANTUM guard c.args.body.now.code c.requires.room)

pub pos_of-requires : goal.pos_of-requires
pos_of-requires g c =
    let guard = g.T.Target.check c.args.body.now.frame in
    let code = c.args.body.now.code in
    let lost = c.in-Err-Lost.ensures.lost c.in-Err-Lost.line c.in-Err-Lost.distance (ap Err c.in-Err-Lost.field-0-is) in
    lost_line g.T.Processor.instructions g.T.Processor.fits g.T.Target.aiming g.T.Processor.QUANTUM guard code
    c.in-Err-Lost.line c.in-Err-Lost.distance
    (same_lost g.T.Processor.instructions g.T.Processor.fits g.T.Target.aiming g.T.Processor.QUANTUM guard code
    c.in_ok-make_rows.field-0.items c.in_ok-make_rows.ensures c.in-Err-Lost.line c.in-Err-Lost.distance lost)

pub returns-in-Err-Lost-clause-out_of_reach : goal.returns-in-Err-Lost-clause-out_of_reach
returns-in-Err-Lost-clause-out_of_reach g c = λ pos distance same.
    let guard = g.T.Target.check c.args.body.now.frame in
    let code = c.args.body.now.code in
    let lost = c.in-Err-Lost.ensures.lost c.in-Err-Lost.line c.in-Err-Lost.distance (ap Err c.in-Err-Lost.field-0-is) in
    let found = out_of_reach g.T.Processor.instructions g.T.Processor.fits g.T.Target.aiming g.T.Processor.QUANTUM guard code
    c.in-Err-Lost.line c.in-Err-Lost.distance c.pos_of.result
    (same_lost g.T.Processor.instructions g.T.Processor.fits g.T.Target.aiming g.T.Processor.QUANTUM guard code
    c.in_ok-make_rows.field-0.items c.in_ok-make_rows.ensures c.in-Err-Lost.line c.in-Err-Lost.distance lost)
    c.pos_of.ensures in
    let at : c.pos_of.result ≡ pos = cc in
    let far : c.in-Err-Lost.distance ≡ distance = cc in
    let p = branches_of g.T.Processor.instructions g.T.Processor.fits g.T.Target.aiming g.T.Processor.QUANTUM guard code in
    subst (λ q. IsOutOfReach p code q distance) at (subst (IsOutOfReach p code c.pos_of.result) far found)

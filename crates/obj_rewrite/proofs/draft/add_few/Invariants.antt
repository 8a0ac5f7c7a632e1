use Rattle.std.proofs.Common.{◌≡◌, drop, None}
use Rattle.obj_rewrite.specs.Draft.{IsDraft, written}
use Rattle.obj_rewrite.specs.Rewriting.{all_added, last_change}
use Rattle.obj_rewrite.proofs.draft.add_few.Given as goal

abbrev pub invariant-loop-number : goal.invariant-loop-number
invariant-loop-number g l =
    let change = last_change g.T.Processor.instructions g.T.Processor.SHAPE g.T.Target.begins in
    IsDraft l.draft
    × (all_added change (written l.draft) (drop l.number l.picks) l.pos None
    ≡ all_added change (written l.fn.draft) l.picks l.pos None)

use Rattle.std.proofs.Common.{◌≡◌, drop}
use Rattle.obj_rewrite.specs.Draft.{IsDraft, written}
use Rattle.obj_rewrite.specs.Rewriting.{all_added, last_change}
use Rattle.obj_rewrite.proofs.draft.add_all.Given as goal

abbrev pub invariant-loop-pick : goal.invariant-loop-pick
invariant-loop-pick g l =
    let change = last_change g.T.Processor.instructions g.T.Processor.SHAPE g.T.Target.begins in
    IsDraft l.draft
    × (all_added change (written l.draft) (drop l.pick-index l.picks) l.pos l.stmt
    ≡ all_added change (written l.fn.draft) l.picks l.pos l.stmt)

use Rattle.std.proofs.Common.{◌+◌, None, drop, ap, ◌∙◌, sym}
use Rattle.obj_rewrite.specs.Draft.{written}
use Rattle.obj_rewrite.specs.Rewriting.{all_added, last_change}
use Rattle.obj_rewrite.proofs.DraftLemmas.{from_place}
use Rattle.obj_rewrite.proofs.draft.add_few.Goals as goal

pub loop-number-preserved : goal.loop-number-preserved
loop-number-preserved g c =
    let change = last_change g.T.Processor.instructions g.T.Processor.SHAPE g.T.Target.begins in
    let rest = drop (c.loop-number.number + 1) c.args.picks.now in (
      c.in_ok-add.ensures.draft,
      ap (λ code. all_added change code rest c.args.pos None) c.in_ok-add.ensures.added
          ∙ sym (ap (λ picks. all_added change (written c.loop-number.draft) picks c.args.pos None)
          (from_place c.args.picks.now c.loop-number.number c.get.result c.get.ensures)) ∙ c.loop-number.invariant.1,
    )

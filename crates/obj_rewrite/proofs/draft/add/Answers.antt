use Rattle.std.proofs.Common.{◌-◌, ap, ◌∙◌, sym}
use Rattle.asm_target.proofs.DepthLemmas.{kept}
use Rattle.obj_rewrite.proofs.DraftLemmas.{with_line}
use Rattle.obj_rewrite.proofs.draft.add.Goals as goal

pub returns-clause-added : goal.returns-clause-added
returns-clause-added g c =
    let new = c.in_ok-append.ensures in
    let draft = c.append.new.draft in
    let same = kept c.change-by.result c.change-by.type_inv in
    with_line g.T.Processor.instructions g.T.Processor.SHAPE g.T.Target.begins c.args.draft.now c.args.pick c.args.pos c.args.stmt
    draft.lines.items c.as_slice.result.now c.as_slice-2.result.now c.as_slice-3.result.now draft.targets.items
    (c.len-number.result - 1) c.depth_behind-draft.result c.change-by.result draft.awaited c.requires new.lines
    (c.as_slice.ensures.value ∙ new.code) (c.as_slice-2.ensures.value ∙ new.depths) new.targets c.as_slice-3.ensures.value
    (ap (λ n. n - 1) (c.len-number.ensures ∙ sym c.as_slice.ensures.len)) c.change-by.ensures
    (rw same at c.depth_behind-draft.ensures.clamped) new.awaited

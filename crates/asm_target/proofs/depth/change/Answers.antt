use Rattle.std.proofs.Common.{◌≡◌, ◌<◌, length, map, sym, ap, ◌∙◌, true, false, arith}
use Rattle.std.specs.Option.{is_some}
use Rattle.asm_target.specs.DepthChange.{moved_by, depth_view_of}
use Rattle.asm_target.proofs.DepthLemmas.{kept, by_sequence, by_move, flow_there}
use Rattle.asm_target.proofs.depth.change.Goals as goal

pub returns-then-is_some : goal.returns-then-is_some
returns-then-is_some g c =
    let view = depth_view_of g.T.Processor.instructions g.T.Processor.SHAPE g.T.Target.begins
    (map (λ placed. placed.instr) c.args.code.now) c.args.depths.now c.args.targets.now in
    let linked : is_some g.T.Processor.SHAPE.link ≡ true =
    ap (λ shape. is_some shape.link) (sym c.SHAPE.ensures) ∙ sym c.is_some.ensures ∙ c.if-is_some.true in
    kept c.added_within.result c.added_within.type_inv ∙ c.added_within.ensures ∙ sym (by_sequence view c.args.number linked)

pub returns-else-is_some : goal.returns-else-is_some
returns-else-is_some g c =
    let view = depth_view_of g.T.Processor.instructions g.T.Processor.SHAPE g.T.Target.begins
    (map (λ placed. placed.instr) c.args.code.now) c.args.depths.now c.args.targets.now in
    let unlinked : is_some g.T.Processor.SHAPE.link ≡ false =
    ap (λ shape. is_some shape.link) (sym c.SHAPE.ensures) ∙ sym c.is_some.ensures ∙ c.if-is_some.false in
    let inside : c.args.number < length c.args.code.now = omega arith in
    kept c.moved_by.result c.moved_by.type_inv ∙ c.moved_by.ensures
    ∙ ap moved_by (sym (flow_there g.T.Processor.instructions g.T.Processor.SHAPE c.args.code.now c.args.number
    c.index-code-number.result inside))
    ∙ sym (by_move view c.args.number unlinked)

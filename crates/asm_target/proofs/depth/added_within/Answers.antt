use Rattle.std.proofs.Common.{◌≡◌, sym, ◌∙◌, ◌<◌, ◌+◌, ◌-◌, ap, map, arith}
use Rattle.asm_target.specs.DepthChange.{added_within, depth_view_of}
use Rattle.asm_target.proofs.DepthLemmas.{kept, turned}
use Rattle.asm_target.proofs.depth.added_within.Goals as goal

pub returns-in-Some : goal.returns-in-Some
returns-in-Some g c =
    let view = depth_view_of g.T.Processor.instructions g.T.Processor.SHAPE g.T.Target.begins
    (map (λ placed. placed.instr) c.args.code.now) c.args.depths.now c.args.targets.now in
    let inside : c.loop-turn.turn < c.args.most = omega arith in
    kept c.added_by.result c.added_by.type_inv ∙ c.added_by.ensures ∙ sym c.in-Some.ensures.stops
    ∙ turned view c.args.number c.args.most c.loop-turn.turn inside ∙ c.loop-turn.invariant

pub loop-turn-preserved : goal.loop-turn-preserved
loop-turn-preserved g c =
    let view = depth_view_of g.T.Processor.instructions g.T.Processor.SHAPE g.T.Target.begins
    (map (λ placed. placed.instr) c.args.code.now) c.args.depths.now c.args.targets.now in
    let inside : c.loop-turn.turn < c.args.most = omega arith in
    let same : c.args.most - (c.loop-turn.turn + 1) ≡ c.args.most - c.loop-turn.turn - 1 = omega arith in
    ap (added_within view c.args.number) same ∙ sym (c.ended.ensures.goes c.in_default.is)
    ∙ turned view c.args.number c.args.most c.loop-turn.turn inside ∙ c.loop-turn.invariant

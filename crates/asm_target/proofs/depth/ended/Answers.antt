use Rattle.std.proofs.Common.{ap, ◌∙◌, ◌≤◌, ◌<◌, length, map, arith}
use Rattle.std.specs.Bool.{if◌then◌else◌}
use Rattle.asm_target.specs.DepthChange.{added_within, depth_view_of}
use Rattle.asm_target.specs.Sequences.{depth_added_by}
use Rattle.asm_target.proofs.DepthLemmas.{none_before, ends_in}
use Rattle.asm_target.proofs.depth.ended.Goals as goal

pub returns-then-back-number-clause-goes : goal.returns-then-back-number-clause-goes
returns-then-back-number-clause-goes g c = λ none. none_before _ c.args.number c.args.back c.if-back-number.true

pub returns-then-does_end-clause-stops : goal.returns-then-does_end-clause-stops
returns-then-does_end-clause-stops g c =
    let inside : c.args.back ≤ c.args.number = omega arith in
    let within : c.args.number < length c.args.depths.now = omega arith in
    ends_in g.T.Processor.instructions g.T.Processor.SHAPE g.T.Target.begins c.args.code.now c.args.depths.now c.args.targets.now
    c.args.number c.args.back c.sequence-found.result c.is_hit.result c.does_end.result inside within c.sequence-found.ensures
    c.is_hit.ensures c.does_end.ensures
    ∙ ap (λ ends. if ends then depth_added_by c.sequence-found.result else added_within (depth_view_of g.T.Processor.instructions
    g.T.Processor.SHAPE g.T.Target.begins (map (λ placed. placed.instr) c.args.code.now) c.args.depths.now c.args.targets.now)
    c.args.number c.args.back) c.if-does_end.true

pub returns-else-does_end-clause-goes : goal.returns-else-does_end-clause-goes
returns-else-does_end-clause-goes g c = λ none.
    let inside : c.args.back ≤ c.args.number = omega arith in
    let within : c.args.number < length c.args.depths.now = omega arith in
    ends_in g.T.Processor.instructions g.T.Processor.SHAPE g.T.Target.begins c.args.code.now c.args.depths.now c.args.targets.now
    c.args.number c.args.back c.sequence-found.result c.is_hit.result c.does_end.result inside within c.sequence-found.ensures
    c.is_hit.ensures c.does_end.ensures
    ∙ ap (λ ends. if ends then depth_added_by c.sequence-found.result else added_within (depth_view_of g.T.Processor.instructions
    g.T.Processor.SHAPE g.T.Target.begins (map (λ placed. placed.instr) c.args.code.now) c.args.depths.now c.args.targets.now)
    c.args.number c.args.back) c.if-does_end.false

use Rattle.std.proofs.Common.{◌≡◌, ◌-◌, map}
use Rattle.asm_target.specs.DepthChange.{added_within, depth_view_of}
use Rattle.asm_target.proofs.depth.added_within.Given as goal

abbrev pub invariant-loop-turn : goal.invariant-loop-turn
invariant-loop-turn g l =
    let view = depth_view_of g.T.Processor.instructions g.T.Processor.SHAPE g.T.Target.begins
    (map (λ placed. placed.instr) l.code) l.depths l.targets in
    added_within view l.number (l.most - l.turn) ≡ added_within view l.number l.most

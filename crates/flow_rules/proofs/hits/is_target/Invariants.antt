use Rattle.std.proofs.Common.{◌≡◌}
use Rattle.asm_target.specs.DepthChange.{any_below}
use Rattle.asm_target.specs.FlowFunction.{is_goal, jump_goal, next_at}
use Rattle.flow_rules.proofs.hits.is_target.Given as goal

abbrev pub invariant-loop-from : goal.invariant-loop-from
invariant-loop-from g l =
    let f = g.L.Listing.function l.list in
    l.hit ≡ any_below (λ i. is_goal (jump_goal (next_at f i)) (f.at l.number)) l.from

use Rattle.std.proofs.Common.{◌≡◌}
use Rattle.asm_target.specs.DepthChange as changes
use Rattle.asm_target.specs.FlowFunction.{is_target}
use Rattle.flow_rules.proofs.hits.is_hit.Given as goal

abbrev pub invariant-loop-behind : goal.invariant-loop-behind
invariant-loop-behind g l = l.hit ≡ changes.is_hit (is_target (g.L.Listing.function l.list)) l.number l.behind

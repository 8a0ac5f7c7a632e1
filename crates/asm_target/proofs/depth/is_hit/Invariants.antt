use Rattle.std.proofs.Common.{◌≡◌}
use Rattle.std.specs.List.{slice_get}
use Rattle.asm_target.specs.DepthChange as changes
use Rattle.asm_target.proofs.depth.is_hit.Given as goal

abbrev pub invariant-loop-behind : goal.invariant-loop-behind
invariant-loop-behind l = l.hit ≡ changes.is_hit (λ k. changes.is_marked (slice_get l.targets k)) l.start l.behind

use Rattle.std.proofs.Common.{◌≡◌, ℕ, ◌<◌, false}
use Rattle.asm_target.specs.FlowRules as rules
use Rattle.flow_rules.proofs.breach.breach_at.Given as goal

abbrev pub invariant-loop-rule : goal.invariant-loop-rule
invariant-loop-rule g l = (rule : ℕ) → rule < l.rule → rules.breaks (g.L.Listing.function l.list) l.here.number rule ≡ false

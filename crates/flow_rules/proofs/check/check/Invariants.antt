use Rattle.std.proofs.Common.{◌≡◌, ℕ, ◌<◌, ◌≤◌, false}
use Rattle.asm_target.specs.FlowRules as rules
use Rattle.flow_rules.specs.Passing.{LeadsTo}
use Rattle.flow_rules.proofs.check.check.Given as goal

abbrev pub invariant-loop-number : goal.invariant-loop-number
invariant-loop-number g l = record {
  leads : LeadsTo (g.L.Listing.function l.list) l.number l.before;
  sound : (k rule : ℕ) → k < l.number → rule ≤ 9 → rules.breaks (g.L.Listing.function l.list) k rule ≡ false;
}

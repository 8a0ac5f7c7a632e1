use Rattle.std.proofs.Common.{ℕ, ◌<◌, ◌≤◌, ◌-◌}
use Rattle.flow_rules.specs.Passing.{GoesOver}
use Rattle.flow_rules.proofs.hits.begun_before.Given as goal

abbrev pub invariant-loop-back : goal.invariant-loop-back
invariant-loop-back g l = record {
  low : l.least ≤ l.first;
  before : l.least < l.first → l.least < l.landing;
  over : l.least < l.first → GoesOver (g.L.Listing.function l.list) l.least l.landing;
  none : (s : ℕ) → s < l.least → s < l.landing → l.landing - s < l.back → ¬ GoesOver (g.L.Listing.function l.list) s l.landing;
}

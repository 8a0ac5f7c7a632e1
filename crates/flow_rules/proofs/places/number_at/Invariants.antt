use Rattle.std.proofs.Common.{ℕ, ◌<◌, ◌≤◌, ◌-◌}
use Rattle.flow_rules.proofs.places.number_at.Given as goal

abbrev pub invariant-loop-low : goal.invariant-loop-low
invariant-loop-low g l = record {
  most : l.high ≤ (g.L.Listing.function l.list).count;
  below : (k : ℕ) → k < l.low → k < (g.L.Listing.function l.list).count → (g.L.Listing.function l.list).at k < l.address;
  above : (k : ℕ) → l.high ≤ k → k < (g.L.Listing.function l.list).count → l.address < (g.L.Listing.function l.list).at k;
}

abbrev pub decreases-loop-low : goal.decreases-loop-low
decreases-loop-low g l = l.high - l.low

use Rattle.std.proofs.Common.{◌≡◌, ℕ, ◌<◌, vec_len, slice_index, Some}
use Rattle.least_forms.specs.Problem.{apart}
use Rattle.least_forms.proofs.placing.distances.Given as goal

abbrev pub invariant-loop-line : goal.invariant-loop-line
invariant-loop-line g l = record {
  len : vec_len l.distances ≡ l.line;
  each : (k goal : ℕ) → k < l.line → (g.L.Lines.problem l.lines).goal k ≡ Some goal
      → slice_index l.distances.items k ≡ apart (slice_index l.places k) (slice_index l.places goal);
}

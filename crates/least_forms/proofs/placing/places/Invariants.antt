use Rattle.std.proofs.Common.{◌≡◌, ℕ, ◌<◌, vec_len, slice_index}
use Rattle.least_forms.specs.Problem.{at, place}
use Rattle.least_forms.proofs.placing.places.Given as goal

abbrev pub invariant-loop-line : goal.invariant-loop-line
invariant-loop-line g l = record {
  len : vec_len l.places ≡ l.line;
  here : l.place ≡ place (g.L.Lines.problem l.lines) (at l.forms) l.line;
  each : (k : ℕ) → k < l.line → slice_index l.places.items k ≡ place (g.L.Lines.problem l.lines) (at l.forms) k;
}

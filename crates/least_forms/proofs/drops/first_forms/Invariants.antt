use Rattle.std.proofs.Common.{◌≡◌, ℕ, ◌<◌, ◌≤◌, vec_len, slice_index, Some, None}
use Rattle.least_forms.proofs.drops.first_forms.Given as goal

abbrev pub invariant-loop-line : goal.invariant-loop-line
invariant-loop-line g l = record {
  len : vec_len l.forms ≡ l.line;
  small : (k : ℕ) → slice_index l.forms.items k ≤ 1;
  long : (k : ℕ) → k < l.line → (g.L.Lines.problem l.lines).goal k ≡ None → slice_index l.forms.items k ≡ 1;
  short : (k goal : ℕ) → k < l.line → (g.L.Lines.problem l.lines).goal k ≡ Some goal → slice_index l.forms.items k ≡ 0;
}

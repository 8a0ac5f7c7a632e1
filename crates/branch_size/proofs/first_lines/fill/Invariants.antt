use Rattle.std.proofs.Common.{◌≡◌, ℕ, ◌+◌, ◌<◌, ◌≤◌, max, slice_index, vec_len}
use Rattle.branch_size.proofs.first_lines.fill.Given as goal

abbrev pub invariant-loop-next : goal.invariant-loop-next
invariant-loop-next l = record {
  len : vec_len l.firsts ≡ l._next;
  most : l._next ≤ max (vec_len l.initial.firsts) (l.number + 1);
  kept : (k : ℕ) → k < vec_len l.initial.firsts → slice_index l.firsts.items k ≡ slice_index l.initial.firsts.items k;
  filled : (k : ℕ) → vec_len l.initial.firsts ≤ k → k < l._next → slice_index l.firsts.items k ≡ l.line;
}

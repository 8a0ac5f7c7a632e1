use Rattle.std.proofs.Common.{◌≡◌, ℕ, ◌+◌, ◌<◌, ◌≤◌, None}
use Rattle.pclntab.specs.Places.{entry_offset}
use Rattle.goasm_base.specs.Refusals.{first_below}
use Rattle.pclntab.specs.Faults.{entry_fault}
use Rattle.pclntab.proofs.judge.judge_order.Given as goal

abbrev pub invariant-loop-index : goal.invariant-loop-index
invariant-loop-index l = record {
  none : first_below l.index (entry_fault l.bytes) ≡ None;
  rising : (index : ℕ) → index < l.index → entry_offset l.bytes index ≤ entry_offset l.bytes (index + 1);
}

use Rattle.std.proofs.Common.{ℕ, ◌-◌, ◌<◌, ◌≤◌}
use Rattle.pclntab.specs.Places.{func_count}
use Rattle.pclntab.specs.Func.{entry_of}
use Rattle.pclntab.proofs.table.Table.begun_by.Given as goal

abbrev pub invariant-loop-low : goal.invariant-loop-low
invariant-loop-low l = record {
  ordered : l.low ≤ l.high;
  within : l.high ≤ func_count l.self;
  begun : (index : ℕ) → index < l.low → entry_of l.self index ≤ l.pc;
  later : (index : ℕ) → l.high ≤ index → index < func_count l.self → l.pc < entry_of l.self index;
}

abbrev pub decreases-loop-low : goal.decreases-loop-low
decreases-loop-low l = l.high - l.low

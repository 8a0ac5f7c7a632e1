use Rattle.std.proofs.Common.{◌≡◌, ℕ, ◌<◌, None}
use Rattle.pclntab.specs.Places.{quantum}
use Rattle.pclntab.specs.Table.{IsFunc, pc_bytes}
use Rattle.goasm_base.specs.Refusals.{first_below}
use Rattle.pclntab.specs.Faults.{func_fault}
use Rattle.pclntab.proofs.judge.judge_funcs.Given as goal

abbrev pub invariant-loop-index : goal.invariant-loop-index
invariant-loop-index l = record {
  none : first_below l.index (func_fault l.bytes) ≡ None;
  good : (index : ℕ) → index < l.index → IsFunc l.bytes index;
  tables : l.tables ≡ record { bytes = pc_bytes l.bytes; quantum = quantum l.bytes };
}

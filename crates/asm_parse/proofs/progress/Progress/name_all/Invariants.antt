use Rattle.std.proofs.Common.{◌≡◌, drop}
use Rattle.asm_parse.specs.Progress.{with_names}
use Rattle.asm_parse.proofs.progress.Progress.name_all.Given as goal

abbrev pub invariant-loop-operand : goal.invariant-loop-operand
invariant-loop-operand l = with_names l.self (drop l.operand-index l.operands) ≡ with_names l.fn.self l.operands

use Rattle.std.proofs.Common.{◌≡◌, drop}
use Rattle.asm_lex.specs.Words.{run_end}
use Rattle.asm_lex.proofs.words.run_len.Given as goal

abbrev pub invariant-loop-at : goal.invariant-loop-at
invariant-loop-at l = run_end l.at l.skip (drop l.at l.bytes) ≡ run_end 0 0 l.bytes

use Rattle.std.proofs.Common.{◌≡◌, drop, false}
use Rattle.asm_lex.specs.Texts.{text_end}
use Rattle.asm_lex.proofs.texts.text_end.Given as goal

abbrev pub invariant-loop-at : goal.invariant-loop-at
invariant-loop-at l = text_end l.at l.escaped (drop l.at l.bytes) ≡ text_end 0 false l.bytes

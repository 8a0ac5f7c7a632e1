use Rattle.std.proofs.Common.{◌≡◌, drop}
use Rattle.asm_lex.specs.Texts.{are_escapes}
use Rattle.asm_lex.proofs.texts.are_escapes.Given as goal

abbrev pub invariant-loop-at : goal.invariant-loop-at
invariant-loop-at l = are_escapes l.skip (drop l.at l.bytes) ≡ are_escapes 0 l.bytes

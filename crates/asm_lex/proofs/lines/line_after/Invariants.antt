use Rattle.std.proofs.Common.{◌≡◌, drop}
use Rattle.asm_lex.specs.Lines.{line_after}
use Rattle.asm_lex.proofs.lines.line_after.Given as goal

abbrev pub invariant-loop-byte : goal.invariant-loop-byte
invariant-loop-byte l = line_after l.line (drop l.byte-index l.bytes) ≡ line_after l.fn.line l.bytes

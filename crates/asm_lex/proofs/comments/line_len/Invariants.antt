use Rattle.std.proofs.Common.{◌≡◌, drop}
use Rattle.asm_lex.specs.Comments.{line_end}
use Rattle.asm_lex.proofs.comments.line_len.Given as goal

abbrev pub invariant-loop-at : goal.invariant-loop-at
invariant-loop-at l = line_end l.at (drop l.at l.bytes) ≡ line_end 0 l.bytes

use Rattle.std.proofs.Common.{◌≡◌, drop}
use Rattle.asm_lex.specs.Comments.{comment_end}
use Rattle.asm_lex.proofs.comments.comment_end.Given as goal

abbrev pub invariant-loop-at : goal.invariant-loop-at
invariant-loop-at l = comment_end l.at (drop l.at l.bytes) ≡ comment_end 0 l.bytes

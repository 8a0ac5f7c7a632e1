use Rattle.std.proofs.Common.{◌≡◌, ℕ, Bool, List, length, drop}
use Rattle.std.specs.Prelude.{All}
use Rattle.goasm_base.specs.Statements.{IsValidOperand}
use Rattle.asm_parse.specs.Words.{Tells}
use Rattle.asm_parse.specs.Refusals.{traversed}
use Rattle.asm_parse.specs.Resolve.{operand_of}
use Rattle.asm_parse.proofs.Loops.{with_front}
use Rattle.asm_parse.proofs.resolve.operands_of.Given as goal

abbrev pub invariant-loop-draft : goal.invariant-loop-draft
invariant-loop-draft g l = record {
  so_far : (word : List ℕ → Bool) → Tells (λ name answer. g.W.Fn.post l.is_word (name, tt) answer) word → with_front (operand_of word l.symbols l.body l.line) l.operands.items (drop l.draft-index l.drafts) ≡ traversed (operand_of word l.symbols l.body l.line) l.drafts;
  valid : All (IsValidOperand (length l.symbols) (length l.body.lines)) l.operands.items;
}

use Rattle.std.proofs.Common.{◌≡◌, ℕ, Bool, List, length, drop}
use Rattle.std.specs.Prelude.{All}
use Rattle.goasm_base.specs.Statements.{IsValidStatement}
use Rattle.asm_parse.specs.Placed.{LineIn, StatementIn}
use Rattle.asm_parse.specs.Words.{Tells}
use Rattle.asm_parse.specs.Refusals.{traversed}
use Rattle.asm_parse.specs.Resolve.{statement_of}
use Rattle.asm_parse.proofs.Loops.{with_front}
use Rattle.asm_parse.proofs.resolve.statements_of.Given as goal

abbrev pub invariant-loop-line : goal.invariant-loop-line
invariant-loop-line g l = record {
  so_far : (word : List ℕ → Bool) → Tells (λ name answer. g.W.Fn.post l.is_word (name, tt) answer) word → with_front (statement_of word l.symbols l.body) l.stmts.items (drop l.line-index l.lines) ≡ traversed (statement_of word l.symbols l.body) l.lines;
  valid : All (IsValidStatement (length l.symbols) (length l.body.lines)) l.stmts.items;
  count : length l.stmts.items ≡ l.line-index;
  placed : (count : ℕ) → All (LineIn count) l.lines → All (StatementIn count) l.stmts.items;
}

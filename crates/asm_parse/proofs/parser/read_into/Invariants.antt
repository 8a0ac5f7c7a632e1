use Rattle.std.proofs.Common.{◌≡◌, ℕ, Bool, List, length, take, drop}
use Rattle.std.specs.Prelude.{All, sum_by}
use Rattle.asm_parse.specs.Known.{IsKnown}
use Rattle.asm_parse.specs.Placed.{TokenIn, StateIn}
use Rattle.asm_parse.specs.Words.{Tells}
use Rattle.asm_parse.specs.Ahead.{seen, outlooks_back}
use Rattle.asm_parse.specs.Steps.{steps}
use Rattle.asm_parse.proofs.parser.read_into.Given as goal

abbrev pub invariant-loop-statement : goal.invariant-loop-statement
invariant-loop-statement g l = record {
  ahead : l.outlooks.items ≡ outlooks_back (drop l.statement-index (seen l.statements));
  read : (word : List ℕ → Bool) → Tells (λ name answer. g.W.Fn.post l.is_word (name, tt) answer) word
      → steps word l.progress (drop l.statement-index (seen l.statements)) ≡ steps word l.fn.progress (seen l.statements);
  known : IsKnown 0 l.fn.progress → IsKnown (sum_by length (take l.statement-index (seen l.statements))) l.progress;
  placed : (count : ℕ) → All (All (TokenIn count)) (seen l.statements) → StateIn count l.fn.progress → StateIn count l.progress;
}

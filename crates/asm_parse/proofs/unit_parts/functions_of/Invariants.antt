use Rattle.std.proofs.Common.{◌≡◌, ℕ, Bool, List, length, drop}
use Rattle.std.specs.Prelude.{All}
use Rattle.goasm_base.specs.Statements.{IsValidFunction}
use Rattle.asm_parse.specs.Placed.{BodyIn, FunctionIn}
use Rattle.asm_parse.specs.Words.{Tells}
use Rattle.asm_parse.specs.Refusals.{traversed}
use Rattle.asm_parse.specs.Resolve.{function_of}
use Rattle.asm_parse.proofs.Loops.{with_front}
use Rattle.asm_parse.proofs.unit_parts.functions_of.Given as goal

abbrev pub invariant-loop-body : goal.invariant-loop-body
invariant-loop-body g l = record {
  so_far : (word : List ℕ → Bool) → Tells (λ name answer. g.W.Fn.post l.is_word (name, tt) answer) word → with_front (function_of word l.symbols) l.functions.items (drop l.body-index l.bodies) ≡ traversed (function_of word l.symbols) l.bodies;
  valid : All (IsValidFunction (length l.symbols)) l.functions.items;
  placed : (count : ℕ) → All (BodyIn count) l.bodies → All (FunctionIn count) l.functions.items;
}

use Rattle.std.proofs.Common.{◌≡◌, ℕ, Bool, List, drop}
use Rattle.std.specs.Prelude.{All}
use Rattle.asm_parse.specs.Placed.{TokenIn, UnitIn}
use Rattle.asm_parse.specs.Valid.{IsValidUnit}
use Rattle.asm_parse.specs.Words.{Tells}
use Rattle.asm_parse.proofs.Loops.{with_front}
use Rattle.goasm_run.specs.Listing.{unit_of, units_of}
use Rattle.goasm_run.proofs.commands.listing.units.Given as goal

abbrev pub invariant-loop-tokens : goal.invariant-loop-tokens
invariant-loop-tokens g l = record {
  so_far : (word : List ℕ → Bool) → Tells (λ name answer. g.W.Fn.post l.is_word (name, tt) answer) word
      → with_front (unit_of word) l.units.items (drop l.tokens-index l.sources) ≡ units_of word l.sources;
  valid : All IsValidUnit l.units.items;
  placed : (count : ℕ) → All (λ tokens. All (TokenIn count) tokens.list) l.sources → All (UnitIn count) l.units.items;
}

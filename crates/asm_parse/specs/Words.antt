-- The words of a target, which a caller's closure tells.
use Rattle.std.specs.Prelude.{◌≡◌, ℕ, Bool, true, ◌&&◌, ◌||◌, List, bytes_eq, codes, Option, Some, None}
use Rattle.std.specs.List.{list_all}
use Rattle.std.specs.Borrow.{Bor}
use Rattle.asm_grammar.specs.declared.draft.Draft.{Draft}
use Rattle.asm_grammar.specs.declared.draft.Draft.TheVariants.{Mem, Pair, Shifted}

-- the closure may be asked about every name
abbrev pub IsAskable : (Bor (List ℕ) → Type 0) → Type 0
IsAskable pre = (name : Bor (List ℕ)) → pre name

-- each answer that it gives about a name is this one
abbrev pub Tells : (Bor (List ℕ) → Bool → Type 0) → (List ℕ → Bool) → Type 0
Tells post word = (name : Bor (List ℕ)) (answer : Bool) → post name answer → answer ≡ word name.now

-- `SP` is the machine's stack pointer also where it is no word of the target
abbrev pub is_base : (List ℕ → Bool) → List ℕ → Bool
is_base word base = bytes_eq base (codes "SP") || word base

abbrev pub is_index : (List ℕ → Bool) → Option (List ℕ × ℕ) → Bool
is_index word None = true
is_index word (Some index) = word index.0

-- the names in an operand that have to be words of the target are
abbrev pub has_words : (List ℕ → Bool) → Draft → Bool
has_words word (Mem off base index) = is_base word base && is_index word index
has_words word (Pair first second) = word first && word second
has_words word (Shifted reg kind amount) = word reg
has_words word _ = true

abbrev pub are_words : (List ℕ → Bool) → List Draft → Bool
are_words word operands = list_all (has_words word) operands

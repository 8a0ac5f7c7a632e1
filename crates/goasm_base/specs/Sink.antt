-- What a sink tells of the bytes that it took.
use Rattle.std.specs.Prelude.{◌≡◌, ℕ, List, ◌++◌, take, Option}
use Rattle.std.specs.Option.{option_map}

-- what was taken, with more bytes behind it
abbrev pub with_more : Option (List ℕ) → List ℕ → Option (List ℕ)
with_more taken bytes = option_map (λ before. before ++ bytes) taken

-- a prefix of the bytes was taken
abbrev pub TookPrefix : Option (List ℕ) → Option (List ℕ) → List ℕ → Type 0
TookPrefix before now bytes = (count : ℕ) × (now ≡ with_more before (take count bytes))

-- Names, each once, in the order of first use.
use Rattle.std.specs.Prelude.{ℕ, Bool, List, [], ◌∷◌, ◌++◌, bytes_eq, if◌then◌else◌}
use Rattle.std.specs.List.{list_any, position_or_len}

-- two names are one where all their bytes are
abbrev pub has_name : List (List ℕ) → List ℕ → Bool
has_name names name = list_any (bytes_eq name) names

abbrev pub with_name : List (List ℕ) → List ℕ → List (List ℕ)
with_name names name = if has_name names name then names else names ++ name ∷ []

-- the index that a name has once it is there
abbrev pub place_of : List (List ℕ) → List ℕ → ℕ
place_of names name = position_or_len (bytes_eq name) names

-- the names after these ones are used too
unfoldable pub used_after : List (List ℕ) → List (List ℕ) → List (List ℕ)
used_after names [] = names
used_after names (name ∷ others) = used_after (with_name names name) others

abbrev pub first_used : List (List ℕ) → List (List ℕ)
first_used names = used_after [] names

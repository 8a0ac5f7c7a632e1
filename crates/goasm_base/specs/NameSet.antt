-- A set of names.
use Rattle.std.specs.Prelude.{◌≡◌, ℕ, Bool, ◌||◌, List, map, bytes_eq}
use Rattle.std.specs.List.{list_any}
use Rattle.std.specs.Borrow.{Bor}
use Rattle.std.specs.BTreeSet.{BTreeSet}

-- the names that a set holds, in the order of their bytes
abbrev pub names_of : BTreeSet (Bor (List ℕ)) → List (List ℕ)
names_of set = map (λ name. name.now) set.keys

-- whether these names have this one
abbrev pub is_among : List ℕ → List (List ℕ) → Bool
is_among name names = list_any (bytes_eq name) names

-- the new names are the old ones and this one
abbrev pub AddsName : List (List ℕ) → List (List ℕ) → List ℕ → Type 0
AddsName old new name = (other : List ℕ) → is_among other new ≡ (is_among other old || bytes_eq name other)

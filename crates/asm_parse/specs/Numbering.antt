-- Names, each once, in the order in which they came first.
use Rattle.std.specs.Prelude.{ℕ, Bool, ◌&&◌, List, [], ◌∷◌, ◌++◌, bytes_eq, position, Option, if◌then◌else◌}
use Rattle.std.specs.List.{list_any, position_or_len}
use Rattle.std.specs.Borrow.{Bor}
use Rattle.std.proofs.Math.Bool.{beq}

-- a name, and whether `<>` stands behind it
abbrev pub Key : Type 0
Key = List ℕ × Bool

abbrev pub key_seen : Bor (List ℕ) × Bool → Key
key_seen key = (key.0.now, key.1)

abbrev pub is_same : Key → Key → Bool
is_same key other = bytes_eq key.0 other.0 && beq key.1 other.1

abbrev pub has_name : List Key → Key → Bool
has_name names key = list_any (is_same key) names

abbrev pub with_name : List Key → Key → List Key
with_name names key = if has_name names key then names else names ++ key ∷ []

-- the number of a name, from 0
abbrev pub number_of : List Key → Key → Option ℕ
number_of names key = position (is_same key) names

-- the number that it has once it is there
abbrev pub place_of : List Key → Key → ℕ
place_of names key = position_or_len (is_same key) names

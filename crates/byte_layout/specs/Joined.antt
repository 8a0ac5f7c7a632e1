-- Parts that stand behind one another, each at the next multiple of a unit, with zeros between them.
use Rattle.std.specs.Prelude.{ℕ, List, [], ◌∷◌, ◌++◌, ◌+◌, ◌-◌, ◌%◌, length}
use Rattle.std.specs.Prelude.{replicate}

-- how far the next multiple of a unit lies from a place that may itself be one
abbrev pub gap : ℕ → ℕ → ℕ
gap unit at = (unit - at % unit) % unit

-- the next multiple of a unit from a place on
unfoldable pub aligned : ℕ → ℕ → ℕ
aligned unit at = at + gap unit at

-- the bytes with zeros behind them up to the next multiple of a unit
unfoldable pub padded : ℕ → List ℕ → List ℕ
padded unit bytes = bytes ++ replicate (gap unit (length bytes)) 0

-- parts behind a front, each at the next multiple of a unit
unfoldable pub joined : ℕ → List ℕ → List (List ℕ) → List ℕ
joined unit front [] = front
joined unit front (part ∷ parts) = joined unit (padded unit front ++ part) parts

-- where the parts begin, behind a front that ends at a place
unfoldable pub places : ℕ → ℕ → List (List ℕ) → List ℕ
places unit end [] = []
places unit end (part ∷ parts) = aligned unit end ∷ places unit (aligned unit end + length part) parts

-- where the last of the parts ends
unfoldable pub ends : ℕ → ℕ → List (List ℕ) → ℕ
ends unit end [] = end
ends unit end (part ∷ parts) = ends unit (aligned unit end + length part) parts

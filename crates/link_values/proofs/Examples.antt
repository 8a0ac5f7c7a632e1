-- The definitions, computed on small builds.
use Rattle.std.proofs.Common.{◌≡◌, ℕ, ℤ, true, false, List, [], ◌∷◌, codes, Some, None, refl}
use Rattle.goasm_base.specs.declared.pos.Pos.{Pos}
use Rattle.asm_parse.specs.declared.unit.Unit.{Unit as Said}
use Rattle.asm_parse.specs.declared.unit.DataPart.{DataPart}
use Rattle.asm_parse.specs.declared.unit.GlobalPart.{GlobalPart}
use Rattle.byte_layout.specs.Joined.{aligned}
use Rattle.link_names.specs.declared.definition.Meaning.TheVariants.{Value}
use Rattle.link_names.specs.Definitions.{Entry, each_from, entries_of}
use Rattle.link_places.specs.Places.{places_from, end_from}
use Rattle.link_values.specs.Kept.{kept_values, placed}
use Rattle.link_values.specs.Values.{moved, value_places, values_end, value_writes}
use Rattle.link_values.specs.Written.{written, written_over, last_byte}

-- the later write stands where two have a place
later_stands : written_over (0 ∷ 0 ∷ 0 ∷ 0 ∷ []) ((1, 7 ∷ 8 ∷ []) ∷ (2, 9 ∷ []) ∷ []) ≡ 0 ∷ 7 ∷ 9 ∷ 0 ∷ []
unfolding written written_over
later_stands = refl

last_of_two : last_byte ((1, 7 ∷ 8 ∷ []) ∷ (2, 9 ∷ []) ∷ []) 2 ≡ Some 9
unfolding last_byte
last_of_two = refl

last_of_none : last_byte ((1, 7 ∷ 8 ∷ []) ∷ (2, 9 ∷ []) ∷ []) 3 ≡ None
unfolding last_byte
last_of_none = refl

-- an offset below 0 that passes 0
below_zero : moved 4 (ℤ.negsuc 7) ≡ 18446744073709551612
below_zero = refl

abbrev here : Pos
here = record { file = 0; line = 1 }

abbrev declared : ℕ → ℕ → GlobalPart
declared sym size = record { sym = sym; flags = 2; size = size; pos = here }

abbrev bytes : ℕ → ℕ → List ℕ → DataPart
bytes sym off part = record { sym = sym; off = off; bytes = part; address = None; pos = here }

-- `v` with DUPOK, of three bytes, and `w`
abbrev first : Said
first = record {
  symbols = record { name = codes "v"; fixed = false } ∷ record { name = codes "w"; fixed = false } ∷ [];
  functions = [];
  values = bytes 0 0 (1 ∷ 2 ∷ []) ∷ [];
  globals = declared 0 3 ∷ declared 1 2 ∷ [];
}

-- a longer `v`, whose data goes into the first one, and `w<>`
abbrev second : Said
second = record {
  symbols = record { name = codes "w"; fixed = true } ∷ record { name = codes "v"; fixed = false } ∷ [];
  functions = [];
  values = bytes 1 1 (5 ∷ 6 ∷ []) ∷ bytes 0 0 (7 ∷ []) ∷ [];
  globals = declared 1 9 ∷ declared 0 1 ∷ [];
}

abbrev names : List Entry
names = entries_of (first ∷ second ∷ []) []

three_kept : kept_values names (first ∷ second ∷ [])
    ≡ record { unit = 0; number = 0; size = 3 } ∷ record { unit = 0; number = 1; size = 2 } ∷ record { unit = 1; number = 1; size = 1 } ∷ []
unfolding each_from
three_kept = refl

three_places : value_places names (first ∷ second ∷ []) ≡ (Value 0 0, 0) ∷ (Value 0 1, 16) ∷ (Value 1 1, 32) ∷ []
unfolding each_from places_from aligned placed
three_places = refl

three_end : values_end names (first ∷ second ∷ []) ≡ 33
unfolding each_from end_from aligned
three_end = refl

three_writes : value_writes names (first ∷ second ∷ []) [] ≡ (0, 1 ∷ 2 ∷ []) ∷ (1, 5 ∷ 6 ∷ []) ∷ (32, 7 ∷ []) ∷ []
unfolding each_from places_from aligned placed
three_writes = refl

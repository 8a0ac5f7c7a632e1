-- Which data has no room where it is declared, and which names stand for nothing.
use Rattle.std.specs.Prelude.{ℕ, ℤ, ◌+◌, Bool, true, false, nat_le, List, [], ◌∷◌, length, Option, Some, None, is_some, if◌then◌else◌}
use Rattle.std.specs.List.{slice_get}
use Rattle.std.specs.Option.{option_map, option_and_then}
use Rattle.asm_parse.specs.declared.unit.Unit.{Unit as Said}
use Rattle.asm_parse.specs.declared.unit.Symbol.{Symbol}
use Rattle.asm_parse.specs.declared.unit.DataPart.{DataPart}
use Rattle.link_names.specs.declared.definition.Meaning.{Meaning}
use Rattle.link_names.specs.declared.definition.Meaning.TheVariants as means
use Rattle.link_names.specs.Definitions.{Key, Entry, each, key_at, meaning_in}

-- how many bytes a part of data has: an address has eight
abbrev pub size_by : Option (ℕ × ℤ) → List ℕ → ℕ
size_by None bytes = length bytes
size_by (Some to) bytes = 8

-- where it ends in its symbol's data
abbrev pub part_end : DataPart → ℕ
part_end part = part.off + size_by part.address part.bytes

-- the size that a `GLOBL` gives to what a symbol stands for
abbrev pub size_of : List Said → Option Meaning → Option ℕ
size_of units (Some (means.Value unit number)) =
    option_and_then (λ said. option_map (λ global. global.size) (slice_get said.globals number)) (slice_get units unit)
size_of units _ = None

abbrev pub is_within : Option ℕ → ℕ → Bool
is_within None last = false
is_within (Some size) last = nat_le last size

module _ (units : List Said) (names : List Entry) where
  -- a part ends within what its symbol stands for, which is data
  abbrev pub has_room : ℕ → List Symbol → DataPart → Bool
  has_room unit symbols part = is_within (size_of units (meaning_in names (key_at unit symbols part.sym))) (part_end part)

  -- the name of its symbol, where it has no room
  abbrev pub part_misplaced : ℕ → List Symbol → ℕ → DataPart → List (List ℕ)
  part_misplaced unit symbols number part = if has_room unit symbols part then [] else (key_at unit symbols part.sym).0 ∷ []

  abbrev pub unit_misplaced : ℕ → Said → List (List ℕ)
  unit_misplaced unit said = each (part_misplaced unit said.symbols) said.values

  -- the names of the symbols whose data has no room, by units and by `DATA`
  abbrev pub misplaced : List (List ℕ)
  misplaced = each unit_misplaced units

module _ (names : List Entry) where
  -- the name of a symbol that stands for nothing
  abbrev pub undefined : Key → List (List ℕ)
  undefined key = if is_some (meaning_in names key) then [] else key.0 ∷ []

  -- the name of the symbol whose address a part is, where it stands for nothing
  abbrev pub undefined_in : ℕ → List Symbol → Option (ℕ × ℤ) → List (List ℕ)
  undefined_in unit symbols None = []
  undefined_in unit symbols (Some to) = undefined (key_at unit symbols to.0)

  abbrev pub address_undefined : ℕ → List Symbol → ℕ → DataPart → List (List ℕ)
  address_undefined unit symbols number part = undefined_in unit symbols part.address

  -- the names of the symbols whose addresses the data of a unit has, and which stand for nothing, by `DATA`
  abbrev pub unit_undefined : ℕ → Said → List (List ℕ)
  unit_undefined unit said = each (address_undefined unit said.symbols) said.values

-- it is a function
abbrev pub is_function : Option Meaning → Bool
is_function (Some (means.Function unit number)) = true
is_function _ = false

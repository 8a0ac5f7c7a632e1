-- The data of a build: what each `GLOBL` declares that its symbol stands for, and where it stands.
use Rattle.std.specs.Prelude.{ℕ, Bool, false, ◌&&◌, nat_eq, List, [], ◌∷◌, map, Option, Some, if◌then◌else◌}
use Rattle.asm_parse.specs.declared.unit.Unit.{Unit as Said}
use Rattle.asm_parse.specs.declared.unit.Symbol.{Symbol}
use Rattle.asm_parse.specs.declared.unit.GlobalPart.{GlobalPart}
use Rattle.link_names.specs.declared.definition.Meaning.{Meaning}
use Rattle.link_names.specs.declared.definition.Meaning.TheVariants.{Value}
use Rattle.link_names.specs.Definitions.{Entry, each, key_at, meaning_in}
use Rattle.link_values.specs.declared.kept.KeptValue.{KeptValue}

-- a symbol stands for the data of this `GLOBL` of this unit
abbrev pub is_value : ℕ → ℕ → Option Meaning → Bool
is_value unit number (Some (Value its place)) = nat_eq unit its && nat_eq number place
is_value unit number _ = false

module _ (names : List Entry) where
  -- what a `GLOBL` declares, where its symbol stands for it
  abbrev pub value_kept : ℕ → List Symbol → ℕ → GlobalPart → List KeptValue
  value_kept unit symbols number global =
      if is_value unit number (meaning_in names (key_at unit symbols global.sym)) then record { unit = unit; number = number; size = global.size } ∷ [] else []

  abbrev pub unit_kept : ℕ → Said → List KeptValue
  unit_kept unit said = each (value_kept unit said.symbols) said.globals

  -- by units and by `GLOBL`
  abbrev pub kept_values : List Said → List KeptValue
  kept_values units = each unit_kept units

abbrev pub sizes_of : List KeptValue → List ℕ
sizes_of kept = map (λ value. value.size) kept

-- data with the places where it stands
unfoldable pub placed : List KeptValue → List ℕ → List (Meaning × ℕ)
placed (value ∷ kept) (place ∷ places) = (Value value.unit value.number, place) ∷ placed kept places
placed _ _ = []

-- The addresses of what the symbols of a build stand for.
use Rattle.std.specs.Prelude.{ℕ, ◌+◌, List, [], ◌∷◌, ◌++◌, map, None, unwrap_or}
use Rattle.asm_parse.specs.declared.unit.Symbol.{Symbol}
use Rattle.link_names.specs.declared.definition.Meaning.{Meaning}
use Rattle.link_names.specs.declared.definition.Meaning.TheVariants.{Function, Value, Outside}
use Rattle.link_names.specs.Definitions.{Key, Entry, each, key_of, meaning_in}
use Rattle.link_functions.specs.declared.code.Part.{Part}
use Rattle.link_functions.specs.declared.code.UnitCode.{UnitCode}
use Rattle.link_places.specs.Addresses.{address_in}
use Rattle.link_values.specs.declared.kept.KeptValue.{KeptValue}
use Rattle.unit_listing.specs.Lines.{growth_name}
use Rattle.link_plan.specs.declared.planning.Plan.{Plan}

-- The address of the first byte of an image's text
abbrev pub text_address : ℕ
text_address = 0x400000

-- things with their addresses: their places behind one address
unfoldable pub behind : ℕ → List Meaning → List ℕ → List (Meaning × ℕ)
behind address (meaning ∷ meanings) (place ∷ places) = (meaning, address + place) ∷ behind address meanings places
behind address _ _ = []

module _ {Instr : Type 0} where
  abbrev pub part_meaning : ℕ → Part Instr → Meaning
  part_meaning unit part = Function unit part.number

  abbrev pub part_meanings : ℕ → List (Part Instr) → List Meaning
  part_meanings unit parts = map (part_meaning unit) parts

  abbrev pub unit_meanings : ℕ → UnitCode Instr → List Meaning
  unit_meanings number unit = part_meanings number unit.parts.items

  -- the functions of a build, by units
  abbrev pub code_meanings : List (UnitCode Instr) → List Meaning
  code_meanings code = each unit_meanings code

abbrev pub value_meaning : KeptValue → Meaning
value_meaning value = Value value.unit value.number

abbrev pub value_meanings : List KeptValue → List Meaning
value_meanings kept = map value_meaning kept

-- an outside name has the address that is given with it
abbrev pub outside_address : ℕ → List ℕ × ℕ → List (Meaning × ℕ)
outside_address number name = (Outside number, name.1) ∷ []

abbrev pub outside_addresses : List (List ℕ × ℕ) → List (Meaning × ℕ)
outside_addresses outside = each outside_address outside

module _ {Instr : Type 0} where
  -- the addresses of a build whose data stands at this address: of its functions, its data and its outside names
  abbrev pub build_addresses : List (UnitCode Instr) → Plan → List (List ℕ × ℕ) → ℕ → List (Meaning × ℕ)
  build_addresses code plan outside values_at =
      behind text_address (code_meanings code) plan.functions.at
      ++ behind values_at (value_meanings plan.kept.items) plan.values.at
      ++ outside_addresses outside

module _ (names : List Entry) (addresses : List (Meaning × ℕ)) where
  -- the address of what a symbol stands for, or 0
  abbrev pub address_of : Key → ℕ
  address_of key = unwrap_or (address_in addresses (meaning_in names key)) 0

  abbrev pub symbol_address : ℕ → Symbol → ℕ
  symbol_address unit symbol = address_of (key_of unit symbol)

  -- of the routine that grows the stack of a function with these flags
  abbrev pub growth_address : ℕ → ℕ
  growth_address flags = address_of (growth_name flags, None)

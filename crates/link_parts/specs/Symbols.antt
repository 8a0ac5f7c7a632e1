-- The symbols of an image.
use Rattle.std.specs.Prelude.{◌≡◌, ℕ, ◌+◌, Bool, true, false, not, List, [], ◌∷◌, ◌++◌, All, map, filter, length, Option, Some, None, IsTrue}
use Rattle.std.specs.List.{slice_get, list_any}
use Rattle.std.specs.Option.{option_and_then}
use Rattle.asm_parse.specs.declared.unit.Symbol.{Symbol}
use Rattle.asm_parse.specs.declared.unit.Unit.{Unit as Said}
use Rattle.elf_image.specs.Contents.{outside_of}
use Rattle.elf_image.specs.declared.parts.SymbolPart.{SymbolPart}
use Rattle.elf_image.specs.Parts.{AreOrdered, IsPart, is_entry}
use Rattle.link_build.specs.Functions.{Seen}
use Rattle.link_plan.specs.Addresses.{text_address}
use Rattle.link_symbols.specs.Table.{outside_symbol}
use Rattle.link_values.specs.declared.kept.KeptValue.{KeptValue}
use Rattle.unit_listing.specs.Lines.{name_of}

-- only its unit sees it
abbrev pub is_fixed : Option Symbol → Bool
is_fixed None = false
is_fixed (Some symbol) = symbol.fixed

-- what a symbol of an image is made of: a symbol of a unit, and a size
abbrev pub Thing : Type 0
Thing = Option Symbol × ℕ

module _ {Instr : Type 0} where
  abbrev pub function_thing : Seen Instr → Thing
  function_thing func = (slice_get func.unit.symbols func.part.function.now.sym, func.part.laid.sizes.length)

-- the symbol that a `GLOBL` of a unit declares
abbrev pub declared_in : Said → ℕ → Option Symbol
declared_in said number = option_and_then (λ global. slice_get said.symbols global.sym) (slice_get said.globals number)

abbrev pub value_thing : List Said → KeptValue → Thing
value_thing units value = (option_and_then (λ said. declared_in said value.number) (slice_get units value.unit), value.size)

-- functions are of kind 0, and data is of kind 1
abbrev pub part_of : ℕ → Thing → ℕ → SymbolPart
part_of kind thing at = record { name = name_of thing.0; at = at; size = thing.1; kind = kind; local = is_fixed thing.0 }

-- of things that stand at these places behind an address
unfoldable pub parts_behind : ℕ → ℕ → List Thing → List ℕ → List SymbolPart
parts_behind kind from (thing ∷ things) (place ∷ places) = part_of kind thing (from + place) ∷ parts_behind kind from things places
parts_behind kind from _ _ = []

abbrev pub function_symbols : {Instr : Type 0} → List (Seen Instr) → List ℕ → List SymbolPart
function_symbols funcs places = parts_behind 0 text_address (map function_thing funcs) places

abbrev pub value_symbols : List Said → List KeptValue → ℕ → List ℕ → List SymbolPart
value_symbols units kept from places = parts_behind 1 from (map (value_thing units) kept) places

-- only the image sees it, or all see it
abbrev pub is_among : Bool → SymbolPart → Bool
is_among true symbol = symbol.local
is_among false symbol = not symbol.local

-- the functions that only the image sees, its data of that kind, the other functions, the other data, and what lies outside
abbrev pub in_order : List SymbolPart → List SymbolPart → List (List ℕ × ℕ) → List SymbolPart
in_order functions values outside =
    filter (is_among true) functions ++ filter (is_among true) values
    ++ filter (is_among false) functions ++ filter (is_among false) values
    ++ map outside_symbol outside

-- what an image wants of its symbols: they can be written, what lies outside is told, and each function can be the entry
pub record AreSymbols (functions : List SymbolPart) (outside : List (List ℕ × ℕ)) (symbols : List SymbolPart) : Type 0 where
  pub parts : All IsPart symbols
  pub order : AreOrdered None symbols
  pub outside_are : outside_of symbols ≡ outside
  pub entries : (number : ℕ) (function : SymbolPart) → slice_get functions number ≡ Some function
      → IsTrue (list_any (is_entry function.at) symbols)

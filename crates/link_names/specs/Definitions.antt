-- What the symbols of a build stand for: its definitions in their order, which of them may stand beside one another, and which one counts.
use Rattle.std.specs.Prelude.{◌≡◌, ℕ, ◌+◌, Bool, true, false, not, ◌&&◌, ◌==◌, nat_eq, bytes_eq, bit_and, List, [], ◌∷◌, ◌++◌, take, Option, Some, None, if◌then◌else◌}
use Rattle.std.specs.List.{AllPairs, slice_get}
use Rattle.std.specs.Map.{lookup}
use Rattle.std.specs.Option.{option_eq, option_map, option_map_or}
use Rattle.goasm_base.specs.declared.statement.Function.{Function}
use Rattle.asm_parse.specs.declared.unit.Unit.{Unit as Said}
use Rattle.asm_parse.specs.declared.unit.Symbol.{Symbol}
use Rattle.asm_parse.specs.declared.unit.GlobalPart.{GlobalPart}
use Rattle.link_names.specs.declared.definition.Definition.{Definition}
use Rattle.link_names.specs.declared.definition.Meaning.{Meaning}
use Rattle.link_names.specs.declared.definition.Meaning.TheVariants as means

-- a symbol of a build: its name, and the number of the unit that alone sees it, where there is one
abbrev pub Key : Type 0
Key = List ℕ × Option ℕ

abbrev pub is_same : Key → Key → Bool
is_same key other = bytes_eq key.0 other.0 && option_eq nat_eq key.1 other.1

-- a symbol of the unit of this number
abbrev pub key_of : ℕ → Symbol → Key
key_of unit symbol = (symbol.name, if symbol.fixed then Some unit else None)

-- the symbol that has this number in a unit
abbrev pub key_at : ℕ → List Symbol → ℕ → Key
key_at unit symbols number = option_map_or (key_of unit) (slice_get symbols number) ([], None)

-- a symbol, with what defines it
abbrev pub Entry : Type 0
Entry = Key × Definition

-- the bit DUPOK, 2, of Go's textflag.h
abbrev pub has_dupok : ℕ → Bool
has_dupok flags = not (bit_and flags 2 == 0)

-- a `TEXT` defines its symbol, and so does a `GLOBL`
abbrev pub function_entry : ℕ → List Symbol → ℕ → Function → Entry
function_entry unit symbols number function =
    (key_at unit symbols function.sym, record { dupok = has_dupok function.flags; meaning = means.Function unit number })

abbrev pub value_entry : ℕ → List Symbol → ℕ → GlobalPart → Entry
value_entry unit symbols number global =
    (key_at unit symbols global.sym, record { dupok = has_dupok global.flags; meaning = means.Value unit number })

-- an outside name is defined where it is given, and no unit may define it
abbrev pub outside_entry : ℕ → List ℕ × ℕ → Entry
outside_entry number outside = ((outside.0, None), record { dupok = false; meaning = means.Outside number })

-- what a function makes of the items and their numbers, which begin with one that is given, one behind the other
unfoldable pub each_from : {X Y : Type 0} → ℕ → (ℕ → X → List Y) → List X → List Y
each_from number make [] = []
each_from number make (item ∷ items) = make number item ++ each_from (number + 1) make items

abbrev pub each : {X Y : Type 0} → (ℕ → X → List Y) → List X → List Y
each make items = each_from 0 make items

-- what a function makes of each item and its number, which begin with 0
abbrev pub numbered : {X Y : Type 0} → (ℕ → X → Y) → List X → List Y
numbered make items = each (λ number item. make number item ∷ []) items

abbrev pub function_entries : ℕ → List Symbol → List Function → List Entry
function_entries unit symbols functions = numbered (function_entry unit symbols) functions

abbrev pub value_entries : ℕ → List Symbol → List GlobalPart → List Entry
value_entries unit symbols globals = numbered (value_entry unit symbols) globals

abbrev pub outside_entries : List (List ℕ × ℕ) → List Entry
outside_entries outside = numbered outside_entry outside

-- the definitions of a unit: its `TEXT`s in their order, then its `GLOBL`s
abbrev pub unit_entries : ℕ → Said → List Entry
unit_entries unit said = function_entries unit said.symbols said.functions ++ value_entries unit said.symbols said.globals

-- the definitions of a build: those of its units in their order, then the outside names
abbrev pub entries_of : List Said → List (List ℕ × ℕ) → List Entry
entries_of units outside = each unit_entries units ++ outside_entries outside

-- a later definition may stand beside an earlier one: they define two symbols, or both have DUPOK
abbrev pub Allows : Entry → Entry → Type 0
Allows earlier later = is_same later.0 earlier.0 ≡ true → (earlier.1.dupok && later.1.dupok) ≡ true

abbrev pub AreAllowed : List Entry → Type 0
AreAllowed entries = AllPairs Allows entries

-- The name of the first definition that may not stand beside an earlier one: with it, the definitions so far are no longer allowed
pub record IsFirstTwice (entries : List Entry) (name : List ℕ) : Type 0 where
  pub number : ℕ
  pub entry : Entry
  pub here : slice_get entries number ≡ Some entry
  pub before : AreAllowed (take number entries)
  pub twice : ¬ AreAllowed (take (number + 1) entries)
  pub named : name ≡ entry.0.0

-- what a symbol stands for: its first definition counts
abbrev pub meaning_in : List Entry → Key → Option Meaning
meaning_in entries key = option_map (λ definition. definition.meaning) (lookup (is_same key) entries)

-- each symbol stands for the same by both
abbrev pub MeansAs : List Entry → List Entry → Type 0
MeansAs entries others = (key : Key) → meaning_in entries key ≡ meaning_in others key

-- The symbols of an image that is linked.
use Rattle.std.specs.Prelude.{ℕ, ◌+◌, Bool, true, false, not, List, ◌++◌, map, filter, length, sum_by, IsTrue}
use Rattle.std.specs.List.{list_all}
use Rattle.elf_image.specs.declared.parts.SymbolPart.{SymbolPart}
use Rattle.elf_image.specs.Symbols.{is_zero}
use Rattle.link_symbols.specs.declared.defined.Defined.{Defined}

-- a name without a zero byte
abbrev pub IsName : List ℕ → Type 0
IsName name = IsTrue (list_all (λ byte. not (is_zero byte)) name)

abbrev pub HasName : Defined → Type 0
HasName defined = IsName defined.name.now

-- what only the image sees, or what all see
abbrev pub is_among : Bool → Defined → Bool
is_among true defined = defined.local
is_among false defined = not defined.local

-- the symbol of a function, of kind 0, or of a value, of kind 1
abbrev pub symbol_of : ℕ → Defined → SymbolPart
symbol_of kind defined = record {
  name = defined.name.now;
  at = defined.at;
  size = defined.size;
  kind = kind;
  local = defined.local;
}

-- the symbol of a name outside the image that has an address
abbrev pub outside_symbol : List ℕ × ℕ → SymbolPart
outside_symbol outside = record { name = outside.0; at = outside.1; size = 0; kind = 2; local = false }

-- in the order in which they are listed, the functions that only the image sees, or those that all see
abbrev pub function_symbols : Bool → List Defined → List SymbolPart
function_symbols local functions = map (symbol_of 0) (filter (is_among local) functions)

-- the same of the values
abbrev pub value_symbols : Bool → List Defined → List SymbolPart
value_symbols local values = map (symbol_of 1) (filter (is_among local) values)

abbrev pub symbols_of : List Defined → List Defined → List (List ℕ × ℕ) → List SymbolPart
symbols_of functions values outside =
    function_symbols true functions ++ value_symbols true values
    ++ function_symbols false functions ++ value_symbols false values
    ++ map outside_symbol outside

abbrev pub addresses_of : List Defined → List ℕ
addresses_of functions = map (λ function. function.at) functions

-- how many bytes all names take, each with the zero byte that ends it
abbrev pub names_length : List Defined → List Defined → List (List ℕ × ℕ) → ℕ
names_length functions values outside =
    sum_by (λ function. length function.name.now + 1) functions
    + sum_by (λ value. length value.name.now + 1) values
    + sum_by (λ name. length name.0 + 1) outside

-- The symbol table of an image: each symbol is judged by what was read before it.
use Rattle.std.specs.Prelude.{◌≡◌, ℕ, zero, suc, Bool, false, List, [], ◌∷◌, ◌+◌, ◌==◌, ◌&&◌, ◌||◌, drop, position, Option, Some, None, Result, Ok, Err, unwrap_or, if◌then◌else◌}
use Rattle.std.specs.Option.{option_map}
use Rattle.elf_image.specs.declared.group.Group.{Group}
use Rattle.elf_image.specs.declared.group.Group.TheVariants.{LocalFunctions, Outside}
use Rattle.elf_image.specs.declared.rows.Width.TheVariants.{Char, Xword}
use Rattle.elf_image.specs.declared.rows.Wanted.{Wanted}
use Rattle.elf_image.specs.declared.rows.Wanted.TheVariants.{Any, Is, Above, InGroup}
use Rattle.elf_image.specs.declared.rows.Row.{Row}
use Rattle.elf_image.specs.declared.symbols.Reading.{Reading}
use Rattle.elf_image.specs.Groups.{rank, group_of, section_of, is_function, is_local}
use Rattle.elf_image.specs.Rows.{number_at, char, half, word, xword, HasRows, rows_fault, symbol_size}

-- a symbol: the place of its name, its info byte, a zero byte, its section, its address and its size
abbrev pub symbol_rows : ℕ → Wanted → Group → Wanted → Wanted → List Row
symbol_rows name info group address size =
    word (Is name) ∷ char info ∷ char (Is 0) ∷ half (Is (section_of group)) ∷ xword address ∷ xword size ∷ []

-- the first symbol, which is none
abbrev pub null_symbol : List Row
null_symbol = word (Is 0) ∷ char (Is 0) ∷ char (Is 0) ∷ half (Is 0) ∷ xword (Is 0) ∷ xword (Is 0) ∷ []

-- before the first symbol
abbrev pub first_reading : Reading
first_reading = record { group = LocalFunctions; last = Any; place = 1; locals = 1; entered = false }

-- the group of the symbol at a place
abbrev pub group_at : List ℕ → ℕ → Group
group_at bytes at = unwrap_or (group_of (number_at bytes (at + 4) Char)) Outside

-- functions of one group stand by rising address
abbrev pub address_in : Reading → Group → Wanted
address_in reading group = if is_function group && rank group == rank reading.group then reading.last else Any

-- what lies outside has no size
abbrev pub size_in : Group → Wanted
size_in group = if rank group == rank Outside then Is 0 else Any

-- what the next symbol has to be
abbrev pub wanted_at : List ℕ → Reading → ℕ → List Row
wanted_at bytes reading at =
    symbol_rows reading.place (InGroup reading.group) (group_at bytes at)
    (address_in reading (group_at bytes at)) (size_in (group_at bytes at))

abbrev pub is_zero : ℕ → Bool
is_zero byte = byte == 0

-- the place behind the zero byte that ends the name at a place
unfoldable pub name_end : List ℕ → ℕ → Option ℕ
name_end names place = option_map (λ size. place + size + 1) (position is_zero (drop place names))

-- behind a symbol
abbrev pub next_reading : ℕ → Reading → Group → ℕ → ℕ → Reading
next_reading entry reading group address place = record {
  group = group;
  last = Above address;
  place = place;
  locals = reading.locals + (if is_local group then 1 else 0);
  entered = reading.entered || (is_function group && address == entry);
}

-- behind the symbol at a place, whose name ends before another
abbrev pub reading_behind : List ℕ → ℕ → Reading → ℕ → ℕ → Reading
reading_behind bytes entry reading at place =
    next_reading entry reading (group_at bytes at) (number_at bytes (at + 8) Xword) place

module _ (names bytes : List ℕ) (entry : ℕ) where
  -- so many symbols stand at a place, and reading them ends in `last`
  abbrev pub HasSymbols : ℕ → Reading → ℕ → Reading → Type 0
  HasSymbols zero reading at last = reading ≡ last
  HasSymbols (suc count) reading at last =
      HasRows bytes at (wanted_at bytes reading at)
      × ((place : ℕ) × ((name_end names reading.place ≡ Some place)
      × HasSymbols count (reading_behind bytes entry reading at place) (at + symbol_size) last))

  abbrev pub read_if : Option ℕ → Option ℕ → (ℕ → Reading) → Option Reading
  read_if None (Some place) behind = Some (behind place)
  read_if None None behind = None
  read_if (Some fault) place behind = None

  -- the symbol at a place is read where its fields and its name are as they have to be
  unfoldable pub symbol_read : Reading → ℕ → Option Reading
  symbol_read reading at =
      read_if (rows_fault bytes at (wanted_at bytes reading at)) (name_end names reading.place) (reading_behind bytes entry reading at)

  abbrev pub read_on : Option Reading → ℕ → (Reading → Result Reading ℕ) → Result Reading ℕ
  read_on None at rest = Err at
  read_on (Some next) at rest = rest next

  -- reading so many symbols ends there, or at the place of the first that isn't as it has to be
  abbrev pub symbols_read : ℕ → Reading → ℕ → Result Reading ℕ
  symbols_read zero reading at = Ok reading
  symbols_read (suc count) reading at =
      read_on (symbol_read reading at) at (λ next. symbols_read count next (at + symbol_size))

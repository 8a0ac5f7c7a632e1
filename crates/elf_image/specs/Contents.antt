-- What an image tells.
use Rattle.std.specs.Prelude.{◌≡◌, ℕ, zero, suc, Bool, List, [], ◌∷◌, ◌+◌, ◌-◌, ◌*◌, ◌≤◌, ◌==◌, take, drop, map, filter, position, Option, Some, None}
use Rattle.elf_image.specs.declared.group.Group.TheVariants.{Outside}
use Rattle.elf_image.specs.declared.rows.Width.TheVariants.{Char, Word, Xword}
use Rattle.elf_image.specs.declared.parts.SymbolPart.{SymbolPart}
use Rattle.elf_image.specs.declared.parts.ImageParts.{ImageParts}
use Rattle.elf_image.specs.Groups.{info_of}
use Rattle.elf_image.specs.Rows.{number_at, symbol_size}
use Rattle.elf_image.specs.Layout.{text_offset, table_offset, values_offset, address_of, machine_in, entry_in, sizes_in}
use Rattle.elf_image.specs.Symbols.{is_zero}
use Rattle.elf_image.specs.Image.{names_in, count_in, symbols_start, IsImage}

-- the parts that are loaded
abbrev pub text_in : List ℕ → List ℕ
text_in bytes = take (sizes_in bytes).text (drop text_offset bytes)

abbrev pub table_in : List ℕ → List ℕ
table_in bytes = take (sizes_in bytes).table (drop (table_offset (sizes_in bytes)) bytes)

abbrev pub values_in : List ℕ → List ℕ
values_in bytes = take (sizes_in bytes).values (drop (values_offset (sizes_in bytes)) bytes)

-- the addresses of the table and of the values; that of the text is always the same
abbrev pub text_address : ℕ
text_address = address_of text_offset

abbrev pub table_address : List ℕ → ℕ
table_address bytes = address_of (table_offset (sizes_in bytes))

abbrev pub values_address : List ℕ → ℕ
values_address bytes = address_of (values_offset (sizes_in bytes))

-- a text up to its first zero byte
abbrev pub text_before : List ℕ → Option ℕ → List ℕ
text_before bytes None = bytes
text_before bytes (Some size) = take size bytes

abbrev pub name_in : List ℕ → ℕ → List ℕ
name_in names place = text_before (drop place names) (position is_zero (drop place names))

-- the places of so many symbols
abbrev pub symbol_places : ℕ → ℕ → List ℕ
symbol_places zero at = []
symbol_places (suc count) at = at ∷ symbol_places count (at + symbol_size)

abbrev pub lies_outside : List ℕ → ℕ → Bool
lies_outside bytes at = number_at bytes (at + 4) Char == info_of Outside

-- the name and the address of the symbol at a place
abbrev pub symbol_at : List ℕ → ℕ → List ℕ × ℕ
symbol_at bytes at = (name_in (names_in bytes) (number_at bytes at Word), number_at bytes (at + 8) Xword)

-- the symbols that lie outside the image, in their order
unfoldable pub outside_in : List ℕ → List (List ℕ × ℕ)
outside_in bytes = map (symbol_at bytes) (filter (lies_outside bytes) (symbol_places (count_in bytes) (symbols_start bytes)))

-- a symbol from which on all lie outside, and before which none does
pub record IsFirstOutside (bytes : List ℕ) (first : ℕ) : Type 0 where
  pub within : first ≤ count_in bytes
  pub all : outside_in bytes
      ≡ map (symbol_at bytes) (symbol_places (count_in bytes - first) (symbols_start bytes + symbol_size * first))

-- an image that was read
pub record IsRead (bytes : List ℕ) (first : ℕ) : Type 0 where
  pub image : IsImage bytes
  pub outside : IsFirstOutside bytes first

-- the same of the parts of which an image is written
abbrev pub outside_of : List SymbolPart → List (List ℕ × ℕ)
outside_of symbols = map (λ part. (part.name, part.at)) (filter (λ part. part.kind == 2) symbols)

-- an image tells these parts
pub record Tells (parts : ImageParts) (bytes : List ℕ) : Type 0 where
  pub machine : machine_in bytes ≡ parts.machine
  pub entry : entry_in bytes ≡ parts.entry
  pub text : text_in bytes ≡ parts.text
  pub table : table_in bytes ≡ parts.table
  pub values : values_in bytes ≡ parts.values
  pub outside : outside_in bytes ≡ outside_of parts.symbols

-- The bytes of an image that is written.
use Rattle.std.specs.Prelude.{ℕ, List, [], ◌∷◌, ◌++◌, ◌+◌, ◌<◌, ◌^◌, All, length, count_by, None, IsTrue}
use Rattle.std.specs.List.{flat_map, list_any}
use Rattle.byte_layout.specs.Joined.{joined}
use Rattle.elf_image.specs.declared.layout.Sizes.{Sizes}
use Rattle.elf_image.specs.declared.rows.Wanted.TheVariants.{Is}
use Rattle.elf_image.specs.declared.rows.Row.{Row}
use Rattle.elf_image.specs.declared.parts.SymbolPart.{SymbolPart}
use Rattle.elf_image.specs.declared.parts.ImageParts.{ImageParts}
use Rattle.elf_image.specs.Groups.{info_of, is_local}
use Rattle.elf_image.specs.Rows.{rows_bytes, labels_size, meets}
use Rattle.elf_image.specs.declared.rows.Wanted.TheVariants.{Machine}
use Rattle.elf_image.specs.Layout.{text_offset, table_offset, values_offset, symbols_offset, strings_offset, labels_offset, sections_offset, labels}
use Rattle.elf_image.specs.Headers.{ident_rows, header_rows, program_rows, text_flags, table_flags, values_flags, section_rows, null_section, text_section, table_section, values_section, symbols_section, strings_section, labels_section}
use Rattle.elf_image.specs.Symbols.{symbol_rows, null_symbol}
use Rattle.elf_image.specs.Parts.{group_of_part, IsPart, AreOrdered, is_entry}

-- a symbol whose name stands at a place among the names
abbrev pub part_rows : ℕ → SymbolPart → List Row
part_rows place part =
    symbol_rows place (Is (info_of (group_of_part part))) (group_of_part part) (Is part.at) (Is part.size)

-- symbols whose names stand behind one another, each before a zero byte
abbrev pub parts_bytes : ℕ → List SymbolPart → List ℕ
parts_bytes place [] = []
parts_bytes place (part ∷ parts) = rows_bytes (part_rows place part) ++ parts_bytes (place + length part.name + 1) parts

unfoldable pub symbol_bytes : List SymbolPart → List ℕ
symbol_bytes symbols = rows_bytes null_symbol ++ parts_bytes 1 symbols

-- a name and the zero byte that ends it
abbrev pub name_bytes : SymbolPart → List ℕ
name_bytes part = part.name ++ 0 ∷ []

unfoldable pub string_bytes : List SymbolPart → List ℕ
string_bytes symbols = 0 ∷ flat_map name_bytes symbols

-- the number of the first symbol that isn't local
abbrev pub locals_of : List SymbolPart → ℕ
locals_of symbols = 1 + count_by (λ part. is_local (group_of_part part)) symbols

abbrev pub sizes_of : ImageParts → Sizes
sizes_of parts = record {
  text = length parts.text;
  table = length parts.table;
  values = length parts.values;
  symbols = length (symbol_bytes parts.symbols);
  strings = length (string_bytes parts.symbols);
}

-- the header and the three program headers, of a machine and an entry
abbrev pub front_table : ℕ → ℕ → Sizes → List Row
front_table machine entry sizes =
    ident_rows ++ header_rows (Is machine) (Is entry) (Is (sections_offset sizes))
    ++ program_rows text_flags text_offset (Is sizes.text) (Is sizes.text)
    ++ program_rows table_flags (table_offset sizes) (Is sizes.table) (Is sizes.table)
    ++ program_rows values_flags (values_offset sizes) (Is sizes.values) (Is sizes.values)

abbrev pub front_rows : ImageParts → List Row
front_rows parts = front_table parts.machine parts.entry (sizes_of parts)

-- the section headers
abbrev pub section_table : Sizes → ℕ → List Row
section_table sizes locals =
    section_rows null_section
    ++ section_rows (text_section text_offset sizes.text)
    ++ section_rows (table_section (table_offset sizes) sizes.table)
    ++ section_rows (values_section (values_offset sizes) sizes.values)
    ++ section_rows (symbols_section (symbols_offset sizes) (Is sizes.symbols) (Is locals))
    ++ section_rows (strings_section (strings_offset sizes) (Is sizes.strings))
    ++ section_rows (labels_section (labels_offset sizes) (Is labels_size))

abbrev pub all_sections : ImageParts → List Row
all_sections parts = section_table (sizes_of parts) (locals_of parts.symbols)

-- the headers, the three parts at multiples of 4096, and what describes them at multiples of 8
unfoldable pub image_bytes : ImageParts → List ℕ
image_bytes parts =
    joined 8
    (joined 4096 (rows_bytes (front_rows parts)) (parts.text ∷ parts.table ∷ parts.values ∷ []))
    (symbol_bytes parts.symbols ∷ string_bytes parts.symbols ∷ labels ∷ rows_bytes (all_sections parts) ∷ [])

-- parts of which an image can be written
pub record AreParts (parts : ImageParts) : Type 0 where
  pub machine : IsTrue (meets Machine parts.machine)
  pub symbols : All IsPart parts.symbols
  pub order : AreOrdered None parts.symbols
  pub entry : IsTrue (list_any (is_entry parts.entry) parts.symbols)
  pub short : length (image_bytes parts) < 2 ^ 32

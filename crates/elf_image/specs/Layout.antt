-- Where the parts of an image stand, by their sizes.
--
-- The headers have 232 bytes. The text begins at 4096, the table and the values at the next multiple of 4096 each. Behind
-- the values come the symbol table, its names, the names of the sections and the section headers, each at the next
-- multiple of 8. The address of a part is its place and 0x3FF000.
use Rattle.std.specs.Prelude.{ℕ, List, [], ◌∷◌, ◌++◌, ◌+◌, ◌*◌, codes}
use Rattle.byte_layout.specs.Joined.{aligned}
use Rattle.elf_image.specs.declared.layout.Sizes.{Sizes}
use Rattle.elf_image.specs.declared.layout.Layout.{Layout}
use Rattle.elf_image.specs.declared.rows.Width.TheVariants.{Half, Word, Xword}
use Rattle.elf_image.specs.Rows.{number_at, labels_size}

abbrev pub header_size : ℕ
header_size = 64

-- the header and the three program headers
abbrev pub headers_size : ℕ
headers_size = 232

abbrev pub sections_size : ℕ
sections_size = 448

abbrev pub text_offset : ℕ
text_offset = 4096

abbrev pub address_of : ℕ → ℕ
address_of offset = offset + 0x3FF000

abbrev pub text_end : Sizes → ℕ
text_end sizes = text_offset + sizes.text

abbrev pub table_offset : Sizes → ℕ
table_offset sizes = aligned 4096 (text_end sizes)

abbrev pub table_end : Sizes → ℕ
table_end sizes = table_offset sizes + sizes.table

abbrev pub values_offset : Sizes → ℕ
values_offset sizes = aligned 4096 (table_end sizes)

abbrev pub values_end : Sizes → ℕ
values_end sizes = values_offset sizes + sizes.values

abbrev pub symbols_offset : Sizes → ℕ
symbols_offset sizes = aligned 8 (values_end sizes)

abbrev pub symbols_end : Sizes → ℕ
symbols_end sizes = symbols_offset sizes + sizes.symbols

abbrev pub strings_offset : Sizes → ℕ
strings_offset sizes = aligned 8 (symbols_end sizes)

abbrev pub strings_end : Sizes → ℕ
strings_end sizes = strings_offset sizes + sizes.strings

abbrev pub labels_offset : Sizes → ℕ
labels_offset sizes = aligned 8 (strings_end sizes)

abbrev pub labels_end : Sizes → ℕ
labels_end sizes = labels_offset sizes + labels_size

abbrev pub sections_offset : Sizes → ℕ
sections_offset sizes = aligned 8 (labels_end sizes)

-- how many bytes the image has: behind the section headers nothing stands
abbrev pub image_length : Sizes → ℕ
image_length sizes = sections_offset sizes + sections_size

abbrev pub layout_of : Sizes → Layout
layout_of sizes = record {
  table = table_offset sizes;
  values = values_offset sizes;
  symbols = symbols_offset sizes;
  strings = strings_offset sizes;
  labels = labels_offset sizes;
  sections = sections_offset sizes;
}

-- the names of the sections, each behind a zero byte
unfoldable pub labels : List ℕ
labels =
    (0 ∷ codes ".text") ++ (0 ∷ codes ".gopclntab") ++ (0 ∷ codes ".data") ++ (0 ∷ codes ".symtab")
    ++ (0 ∷ codes ".strtab") ++ (0 ∷ codes ".shstrtab") ++ 0 ∷ []

-- What the headers say. A number that lies past the end of the bytes counts as 0 there.
abbrev pub machine_in : List ℕ → ℕ
machine_in bytes = number_at bytes 18 Half

abbrev pub entry_in : List ℕ → ℕ
entry_in bytes = number_at bytes 24 Xword

abbrev pub entry_place : ℕ
entry_place = 24

-- where the section headers begin
abbrev pub sections_in : List ℕ → ℕ
sections_in bytes = number_at bytes 40 Xword

abbrev pub sections_place : ℕ
sections_place = 40

abbrev pub text_header : ℕ
text_header = 64

abbrev pub table_header : ℕ
table_header = 120

abbrev pub values_header : ℕ
values_header = 176

-- the size in a program header
abbrev pub program_size : List ℕ → ℕ → ℕ
program_size bytes at = number_at bytes (at + 32) Xword

abbrev pub section_at : List ℕ → ℕ → ℕ
section_at bytes index = sections_in bytes + 64 * index

-- the size in a section header
abbrev pub section_size : List ℕ → ℕ → ℕ
section_size bytes at = number_at bytes (at + 32) Xword

abbrev pub sizes_in : List ℕ → Sizes
sizes_in bytes = record {
  text = program_size bytes text_header;
  table = program_size bytes table_header;
  values = program_size bytes values_header;
  symbols = section_size bytes (section_at bytes 4);
  strings = section_size bytes (section_at bytes 5);
}

-- where the section header of the symbol table says how many symbols are local
abbrev pub info_place : List ℕ → ℕ
info_place bytes = section_at bytes 4 + 44

abbrev pub info_in : List ℕ → ℕ
info_in bytes = number_at bytes (info_place bytes) Word

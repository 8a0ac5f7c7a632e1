-- The headers of an image, field by field (ELF-64 Object File Format, "ELF header", "Sections", "Segments").
use Rattle.std.specs.Prelude.{ℕ, List, [], ◌∷◌}
use Rattle.elf_image.specs.declared.rows.Wanted.{Wanted}
use Rattle.elf_image.specs.declared.rows.Wanted.TheVariants.{Is}
use Rattle.elf_image.specs.declared.rows.Row.{Row}
use Rattle.elf_image.specs.declared.headers.Section.{Section}
use Rattle.elf_image.specs.Rows.{half, word, xword}
use Rattle.elf_image.specs.Layout.{address_of}

-- the sixteen bytes of the ident: 7F 45 4C 46 02 01 01 and nine zeros
abbrev pub ident_rows : List Row
ident_rows = xword (Is 0x0001_0102_464C_457F) ∷ xword (Is 0) ∷ []

-- the rest of the header: an executable, its machine, version 1, its entry, where the program headers and the section
-- headers begin, no flags, and the sizes and numbers of all three kinds of headers; the names of the sections are the last
abbrev pub header_rows : Wanted → Wanted → Wanted → List Row
header_rows machine entry sections =
    half (Is 2) ∷ half machine ∷ word (Is 1) ∷ xword entry ∷ xword (Is 64) ∷ xword sections ∷ word (Is 0) ∷
    half (Is 64) ∷ half (Is 56) ∷ half (Is 3) ∷ half (Is 64) ∷ half (Is 7) ∷ half (Is 6) ∷ []

-- a part that is loaded: its flags, its place, its address twice, its size in the file and in memory
abbrev pub program_rows : ℕ → ℕ → Wanted → Wanted → List Row
program_rows flags offset file_size memory_size =
    word (Is 1) ∷ word (Is flags) ∷ xword (Is offset) ∷ xword (Is (address_of offset)) ∷ xword (Is (address_of offset)) ∷
    xword file_size ∷ xword memory_size ∷ xword (Is 4096) ∷ []

-- the flags of parts that are loaded: read and execute, read, read and write
abbrev pub text_flags : ℕ
text_flags = 5

abbrev pub table_flags : ℕ
table_flags = 4

abbrev pub values_flags : ℕ
values_flags = 6

abbrev pub section_rows : Section → List Row
section_rows section =
    word (Is section.name) ∷ word (Is section.kind) ∷ xword (Is section.flags) ∷ xword (Is section.address) ∷
    xword (Is section.offset) ∷ xword section.size ∷ word (Is section.link) ∷ word section.info ∷
    xword (Is section.align) ∷ xword (Is section.entry_size) ∷ []

-- the sections; a name is a place among the names of the sections
abbrev pub null_section : Section
null_section = record {
  name = 0;
  kind = 0;
  flags = 0;
  address = 0;
  offset = 0;
  size = Is 0;
  link = 0;
  info = Is 0;
  align = 0;
  entry_size = 0;
}

-- a part that is loaded
abbrev pub loaded_section : ℕ → ℕ → ℕ → ℕ → ℕ → Section
loaded_section name flags offset size align = record {
  name = name;
  kind = 1;
  flags = flags;
  address = address_of offset;
  offset = offset;
  size = Is size;
  link = 0;
  info = Is 0;
  align = align;
  entry_size = 0;
}

abbrev pub text_section : ℕ → ℕ → Section
text_section offset size = loaded_section 1 6 offset size 16

abbrev pub table_section : ℕ → ℕ → Section
table_section offset size = loaded_section 7 2 offset size 8

abbrev pub values_section : ℕ → ℕ → Section
values_section offset size = loaded_section 18 3 offset size 16

-- the symbol table, whose names are section 5, and which says how many of its symbols are local
abbrev pub symbols_section : ℕ → Wanted → Wanted → Section
symbols_section offset size info = record {
  name = 24;
  kind = 2;
  flags = 0;
  address = 0;
  offset = offset;
  size = size;
  link = 5;
  info = info;
  align = 8;
  entry_size = 24;
}

-- names
abbrev pub names_section : ℕ → ℕ → Wanted → Section
names_section name offset size = record {
  name = name;
  kind = 3;
  flags = 0;
  address = 0;
  offset = offset;
  size = size;
  link = 0;
  info = Is 0;
  align = 1;
  entry_size = 0;
}

abbrev pub strings_section : ℕ → Wanted → Section
strings_section offset size = names_section 32 offset size

abbrev pub labels_section : ℕ → Wanted → Section
labels_section offset size = names_section 40 offset size

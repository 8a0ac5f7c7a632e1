-- What an image is.
use Rattle.std.specs.Prelude.{◌≡◌, ℕ, List, ◌+◌, ◌-◌, ◌/◌, ◌%◌, ◌≤◌, length, take, drop, slice_index, IsTrue}
use Rattle.std.specs.Prelude.{replicate}
use Rattle.elf_image.specs.declared.rows.Wanted.TheVariants.{Any, Is, Machine, Within, Entries, Labels}
use Rattle.elf_image.specs.declared.symbols.Reading.{Reading}
use Rattle.elf_image.specs.Rows.{HasRows, byte_rows, symbol_size}
use Rattle.elf_image.specs.Layout.{header_size, headers_size, sections_size, text_offset, text_end, table_offset, table_end, values_offset, values_end, symbols_offset, symbols_end, strings_offset, strings_end, labels_offset, labels_end, sections_offset, labels, entry_in, sections_in, text_header, table_header, values_header, program_size, section_at, sizes_in, info_in}
use Rattle.elf_image.specs.Headers.{ident_rows, header_rows, program_rows, text_flags, table_flags, values_flags, section_rows, null_section, text_section, table_section, values_section, symbols_section, strings_section, labels_section}
use Rattle.elf_image.specs.Symbols.{null_symbol, first_reading, HasSymbols}

-- a header of a 64-bit executable for a machine that Goasm knows
pub record HasHeader (bytes : List ℕ) : Type 0 where
  pub long : header_size ≤ length bytes
  pub ident : HasRows bytes 0 ident_rows
  pub fields : HasRows bytes 16 (header_rows Machine Any Any)

-- a part that is loaded, and lies within the bytes
abbrev pub HasProgram : List ℕ → ℕ → ℕ → ℕ → Type 0
HasProgram bytes at flags offset =
    HasRows bytes at (program_rows flags offset (Within offset (length bytes)) (Is (program_size bytes at)))

pub record HasPrograms (bytes : List ℕ) : Type 0 where
  pub long : headers_size ≤ length bytes
  pub text : HasProgram bytes text_header text_flags text_offset
  pub table : HasProgram bytes table_header table_flags (table_offset (sizes_in bytes))
  pub values : HasProgram bytes values_header values_flags (values_offset (sizes_in bytes))

-- the section headers lie behind the values, within the bytes
pub record HasSectionsPlace (bytes : List ℕ) : Type 0 where
  pub whole : sections_in bytes % 8 ≡ 0
  pub behind : values_end (sizes_in bytes) ≤ sections_in bytes
  pub within : sections_in bytes + sections_size ≤ length bytes

-- each section is as the sizes say, and the headers stand directly behind the last
pub record HasSections (bytes : List ℕ) : Type 0 where
  pub null : HasRows bytes (section_at bytes 0) (section_rows null_section)
  pub text : HasRows bytes (section_at bytes 1) (section_rows (text_section text_offset (sizes_in bytes).text))
  pub table : HasRows bytes (section_at bytes 2) (section_rows (table_section (table_offset (sizes_in bytes)) (sizes_in bytes).table))
  pub values : HasRows bytes (section_at bytes 3) (section_rows (values_section (values_offset (sizes_in bytes)) (sizes_in bytes).values))
  pub symbols : HasRows bytes (section_at bytes 4)
      (section_rows (symbols_section (symbols_offset (sizes_in bytes)) (Entries (symbols_offset (sizes_in bytes)) (sections_in bytes)) Any))
  pub strings : HasRows bytes (section_at bytes 5)
      (section_rows (strings_section (strings_offset (sizes_in bytes)) (Within (strings_offset (sizes_in bytes)) (sections_in bytes))))
  pub labels : HasRows bytes (section_at bytes 6)
      (section_rows (labels_section (labels_offset (sizes_in bytes)) (Labels (labels_offset (sizes_in bytes)) (sections_in bytes))))
  pub next : sections_in bytes ≡ sections_offset (sizes_in bytes)

-- what the later steps of reading know from the earlier ones: the section headers stand behind the parts, within the bytes
pub record IsReady (bytes : List ℕ) : Type 0 where
  pub within : sections_in bytes + sections_size ≤ length bytes
  pub next : sections_in bytes ≡ sections_offset (sizes_in bytes)
  pub symbols : symbol_size ≤ (sizes_in bytes).symbols

-- zeros from a place to another
abbrev pub HasZeros : List ℕ → ℕ → ℕ → Type 0
HasZeros bytes from to = HasRows bytes from (byte_rows (replicate (to - from) 0))

-- what lies between the parts is zero, and the names of the sections are the given ones
pub record HasGaps (bytes : List ℕ) : Type 0 where
  pub headers : HasZeros bytes headers_size text_offset
  pub text : HasZeros bytes (text_end (sizes_in bytes)) (table_offset (sizes_in bytes))
  pub table : HasZeros bytes (table_end (sizes_in bytes)) (values_offset (sizes_in bytes))
  pub values : HasZeros bytes (values_end (sizes_in bytes)) (symbols_offset (sizes_in bytes))
  pub symbols : HasZeros bytes (symbols_end (sizes_in bytes)) (strings_offset (sizes_in bytes))
  pub strings : HasZeros bytes (strings_end (sizes_in bytes)) (labels_offset (sizes_in bytes))
  pub labels : HasRows bytes (labels_offset (sizes_in bytes)) (byte_rows labels)
  pub sections : HasZeros bytes (labels_end (sizes_in bytes)) (sections_in bytes)

-- the names of the symbols
abbrev pub names_in : List ℕ → List ℕ
names_in bytes = take (sizes_in bytes).strings (drop (strings_offset (sizes_in bytes)) bytes)

-- how many symbols stand behind the first, which is none, and where they begin
abbrev pub count_in : List ℕ → ℕ
count_in bytes = (sizes_in bytes).symbols / symbol_size - 1

abbrev pub symbols_start : List ℕ → ℕ
symbols_start bytes = symbols_offset (sizes_in bytes) + symbol_size

-- reading all symbols ends in `last`
abbrev pub ReadsSymbols : List ℕ → Reading → Type 0
ReadsSymbols bytes last =
    HasSymbols (names_in bytes) bytes (entry_in bytes) (count_in bytes) first_reading (symbols_start bytes) last

-- the section header tells how many symbols are local, the names begin with a zero byte and end behind the last symbol's
-- name, and the entry is the address of a function
pub record EndsWell (bytes : List ℕ) (last : Reading) : Type 0 where
  pub locals : info_in bytes ≡ last.locals
  pub some : 1 ≤ length (names_in bytes)
  pub zero : slice_index (names_in bytes) 0 ≡ 0
  pub all : length (names_in bytes) ≤ last.place
  pub entry : IsTrue last.entered

pub record HasSymbolTable (bytes : List ℕ) : Type 0 where
  pub null : HasRows bytes (symbols_offset (sizes_in bytes)) null_symbol
  pub last : Reading
  pub symbols : ReadsSymbols bytes last
  pub ends : EndsWell bytes last

pub record IsImage (bytes : List ℕ) : Type 0 where
  pub header : HasHeader bytes
  pub programs : HasPrograms bytes
  pub place : HasSectionsPlace bytes
  pub sections : HasSections bytes
  pub gaps : HasGaps bytes
  pub symbols : HasSymbolTable bytes
  pub whole : length bytes ≤ sections_in bytes + sections_size

-- The first fault of an image, in the order in which an image is read.
use Rattle.std.specs.Prelude.{◌≡◌, ℕ, Bool, List, ◌+◌, ◌-◌, ◌%◌, ◌==◌, ◌&&◌, nat_le, length, slice_index, Option, Some, None, Result, Ok, Err, if◌then◌else◌}
use Rattle.std.specs.Prelude.{replicate}
use Rattle.std.specs.Option.{option_or, option_map}
use Rattle.elf_image.specs.declared.fault.ImageNo.{ImageNo}
use Rattle.elf_image.specs.declared.fault.ImageNo.TheVariants.{I1, I2, I3, I4}
use Rattle.elf_image.specs.declared.rows.Wanted.TheVariants.{Any, Is, Machine, Within, Entries, Labels}
use Rattle.elf_image.specs.declared.headers.Section.{Section}
use Rattle.elf_image.specs.declared.symbols.Reading.{Reading}
use Rattle.elf_image.specs.Rows.{rows_fault, byte_rows}
use Rattle.elf_image.specs.Layout.{header_size, headers_size, sections_size, text_offset, text_end, table_offset, table_end, values_offset, values_end, symbols_offset, symbols_end, strings_offset, strings_end, labels_offset, labels_end, sections_offset, sections_place, entry_place, labels, entry_in, sections_in, text_header, table_header, values_header, program_size, section_at, sizes_in, info_in, info_place}
use Rattle.elf_image.specs.Headers.{ident_rows, header_rows, program_rows, text_flags, table_flags, values_flags, section_rows, null_section, text_section, table_section, values_section, symbols_section, strings_section, labels_section}
use Rattle.elf_image.specs.Symbols.{null_symbol, first_reading, symbols_read}
use Rattle.elf_image.specs.Image.{names_in, count_in, symbols_start}

-- the fault of a test that fails
abbrev pub unless : Bool → ImageNo → Option ImageNo
unless test fault = if test then None else Some fault

-- the fault of rows, under a code
abbrev pub header_at : Option ℕ → Option ImageNo
header_at place = option_map (λ at. I1 at) place

abbrev pub layout_at : Option ℕ → Option ImageNo
layout_at place = option_map (λ at. I2 at) place

-- a fault of rows that are one field, at its place
abbrev pub field_at : Option ℕ → ImageNo → Option ImageNo
field_at None fault = None
field_at (Some at) fault = Some fault

unfoldable pub header_fault : List ℕ → Option ImageNo
header_fault bytes =
    option_or (unless (nat_le header_size (length bytes)) (I1 (length bytes)))
    (option_or (field_at (rows_fault bytes 0 ident_rows) (I1 0))
    (header_at (rows_fault bytes 16 (header_rows Machine Any Any))))

unfoldable pub program_fault : List ℕ → ℕ → ℕ → ℕ → Option ImageNo
program_fault bytes at flags offset =
    layout_at (rows_fault bytes at (program_rows flags offset (Within offset (length bytes)) (Is (program_size bytes at))))

unfoldable pub programs_fault : List ℕ → Option ImageNo
programs_fault bytes =
    option_or (unless (nat_le headers_size (length bytes)) (I2 (length bytes)))
    (option_or (program_fault bytes text_header text_flags text_offset)
    (option_or (program_fault bytes table_header table_flags (table_offset (sizes_in bytes)))
    (program_fault bytes values_header values_flags (values_offset (sizes_in bytes)))))

unfoldable pub place_fault : List ℕ → Option ImageNo
place_fault bytes =
    option_or (unless (sections_in bytes % 8 == 0) (I2 sections_place))
    (option_or (unless (nat_le (values_end (sizes_in bytes)) (sections_in bytes)) (I2 sections_place))
    (unless (nat_le (sections_in bytes + sections_size) (length bytes)) (I2 sections_place)))

unfoldable pub section_fault : List ℕ → ℕ → Section → Option ImageNo
section_fault bytes at section = layout_at (rows_fault bytes at (section_rows section))

-- of the sections that are loaded
unfoldable pub loaded_fault : List ℕ → Option ImageNo
loaded_fault bytes =
    option_or (section_fault bytes (section_at bytes 0) null_section)
    (option_or (section_fault bytes (section_at bytes 1) (text_section text_offset (sizes_in bytes).text))
    (option_or (section_fault bytes (section_at bytes 2) (table_section (table_offset (sizes_in bytes)) (sizes_in bytes).table))
    (section_fault bytes (section_at bytes 3) (values_section (values_offset (sizes_in bytes)) (sizes_in bytes).values))))

-- of those that describe them
unfoldable pub described_fault : List ℕ → Option ImageNo
described_fault bytes =
    option_or (section_fault bytes (section_at bytes 4)
    (symbols_section (symbols_offset (sizes_in bytes)) (Entries (symbols_offset (sizes_in bytes)) (sections_in bytes)) Any))
    (option_or (section_fault bytes (section_at bytes 5)
    (strings_section (strings_offset (sizes_in bytes)) (Within (strings_offset (sizes_in bytes)) (sections_in bytes))))
    (section_fault bytes (section_at bytes 6)
    (labels_section (labels_offset (sizes_in bytes)) (Labels (labels_offset (sizes_in bytes)) (sections_in bytes)))))

unfoldable pub sections_fault : List ℕ → Option ImageNo
sections_fault bytes =
    option_or (loaded_fault bytes)
    (option_or (described_fault bytes) (unless (sections_in bytes == sections_offset (sizes_in bytes)) (I2 sections_place)))

-- the first byte from a place to another that isn't zero
unfoldable pub zeros_fault : List ℕ → ℕ → ℕ → Option ImageNo
zeros_fault bytes from to = layout_at (rows_fault bytes from (byte_rows (replicate (to - from) 0)))

-- the first byte of the names of the sections that isn't the given one
unfoldable pub labels_fault : List ℕ → ℕ → Option ImageNo
labels_fault bytes at = layout_at (rows_fault bytes at (byte_rows labels))

unfoldable pub gaps_fault : List ℕ → Option ImageNo
gaps_fault bytes =
    option_or (zeros_fault bytes headers_size text_offset)
    (option_or (zeros_fault bytes (text_end (sizes_in bytes)) (table_offset (sizes_in bytes)))
    (option_or (zeros_fault bytes (table_end (sizes_in bytes)) (values_offset (sizes_in bytes)))
    (option_or (zeros_fault bytes (values_end (sizes_in bytes)) (symbols_offset (sizes_in bytes)))
    (option_or (zeros_fault bytes (symbols_end (sizes_in bytes)) (strings_offset (sizes_in bytes)))
    (option_or (zeros_fault bytes (strings_end (sizes_in bytes)) (labels_offset (sizes_in bytes)))
    (option_or (labels_fault bytes (labels_offset (sizes_in bytes)))
    (zeros_fault bytes (labels_end (sizes_in bytes)) (sections_in bytes))))))))

-- behind the last symbol
unfoldable pub end_fault : List ℕ → Reading → Option ImageNo
end_fault bytes last =
    option_or (unless (info_in bytes == last.locals) (I3 (info_place bytes)))
    (option_or (unless (nat_le 1 (length (names_in bytes)) && slice_index (names_in bytes) 0 == 0) (I3 (strings_offset (sizes_in bytes))))
    (option_or (unless (nat_le (length (names_in bytes)) last.place) (I3 (strings_offset (sizes_in bytes) + last.place)))
    (unless last.entered (I3 entry_place))))

abbrev pub read_fault : List ℕ → Result Reading ℕ → Option ImageNo
read_fault bytes (Ok last) = end_fault bytes last
read_fault bytes (Err at) = Some (I3 at)

-- of the first symbol, which is none
unfoldable pub null_fault : List ℕ → Option ImageNo
null_fault bytes = field_at (rows_fault bytes (symbols_offset (sizes_in bytes)) null_symbol) (I3 (symbols_offset (sizes_in bytes)))

-- of the others
unfoldable pub others_fault : List ℕ → Option ImageNo
others_fault bytes =
    read_fault bytes (symbols_read (names_in bytes) bytes (entry_in bytes) (count_in bytes) first_reading (symbols_start bytes))

unfoldable pub symbols_fault : List ℕ → Option ImageNo
symbols_fault bytes = option_or (null_fault bytes) (others_fault bytes)

-- the bytes end with the section headers
unfoldable pub length_fault : List ℕ → Option ImageNo
length_fault bytes = unless (nat_le (length bytes) (sections_in bytes + sections_size)) (I4 (sections_in bytes + sections_size))

unfoldable pub image_fault : List ℕ → Option ImageNo
image_fault bytes =
    option_or (header_fault bytes)
    (option_or (programs_fault bytes)
    (option_or (place_fault bytes)
    (option_or (sections_fault bytes)
    (option_or (gaps_fault bytes)
    (option_or (symbols_fault bytes) (length_fault bytes))))))

-- bytes are read exactly where they have no fault, and are otherwise refused with the first
abbrev pub Judges : {T : Type 0} → Result T ImageNo → Option ImageNo → Type 0
Judges (Ok read) fault = fault ≡ None
Judges (Err found) fault = fault ≡ Some found

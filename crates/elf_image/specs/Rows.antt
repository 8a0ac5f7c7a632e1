-- Headers as rows: for each field its width, and which numbers may stand in it.
use Rattle.std.specs.Prelude.{ℕ, Bool, true, false, List, [], ◌∷◌, ◌+◌, ◌%◌, ◌==◌, ◌&&◌, ◌||◌, nat_lt, nat_le, drop, map, Option, Some, None, IsTrue, if◌then◌else◌}
use Rattle.std.specs.List.{flat_map}
use Rattle.byteorder.specs.Endian.{little_bytes, little_number}
use Rattle.elf_image.specs.declared.group.Group.{Group}
use Rattle.elf_image.specs.declared.rows.Width.{Width}
use Rattle.elf_image.specs.declared.rows.Width.TheVariants.{Char, Half, Word, Xword}
use Rattle.elf_image.specs.declared.rows.Wanted.{Wanted}
use Rattle.elf_image.specs.declared.rows.Wanted.TheVariants.{Any, Is, Above, Machine, InGroup, Within, Entries, Labels}
use Rattle.elf_image.specs.declared.rows.Row.{Row}
use Rattle.elf_image.specs.Groups.{rank, group_of}

-- in bytes
abbrev pub size_of : Width → ℕ
size_of Char = 1
size_of Half = 2
size_of Word = 4
size_of Xword = 8

-- the number of a field at a place, the lowest byte first
unfoldable pub number_at : List ℕ → ℕ → Width → ℕ
number_at bytes at width = little_number (size_of width) (drop at bytes)

abbrev pub char : Wanted → Row
char wanted = record { width = Char; wanted = wanted }

abbrev pub half : Wanted → Row
half wanted = record { width = Half; wanted = wanted }

abbrev pub word : Wanted → Row
word wanted = record { width = Word; wanted = wanted }

abbrev pub xword : Wanted → Row
xword wanted = record { width = Xword; wanted = wanted }

-- the sizes of the entries of a symbol table, and of the names of the sections
abbrev pub symbol_size : ℕ
symbol_size = 24

abbrev pub labels_size : ℕ
labels_size = 50

-- an info byte tells this group or a later one
abbrev pub reaches : Group → Option Group → Bool
reaches group None = false
reaches group (Some found) = nat_le (rank group) (rank found)

-- the number may stand in a field of this kind
abbrev pub meets : Wanted → ℕ → Bool
meets Any found = true
meets (Is number) found = found == number
meets (Above number) found = nat_lt number found
meets Machine found = found == 62 || found == 183 || found == 243
meets (InGroup group) found = reaches group (group_of found)
meets (Within from to) found = nat_le (from + found) to
meets (Entries from to) found = nat_le (from + found) to && nat_le symbol_size found && found % symbol_size == 0
meets (Labels from to) found = nat_le (from + found) to && found == labels_size

-- each field of the rows, one behind another from a place on, has a number that may stand there
abbrev pub HasRows : List ℕ → ℕ → List Row → Type 0
HasRows bytes at [] = Unit {0}
HasRows bytes at (row ∷ rows) = IsTrue (meets row.wanted (number_at bytes at row.width)) × HasRows bytes (at + size_of row.width) rows

-- the place of the first field that has another number
abbrev pub rows_fault : List ℕ → ℕ → List Row → Option ℕ
rows_fault bytes at [] = None
rows_fault bytes at (row ∷ rows) =
    if meets row.wanted (number_at bytes at row.width) then rows_fault bytes (at + size_of row.width) rows else Some at

-- the size of the fields together, in bytes
abbrev pub rows_size : List Row → ℕ
rows_size [] = 0
rows_size (row ∷ rows) = size_of row.width + rows_size rows

-- the number that is written where one number alone may stand
abbrev pub value_of : Wanted → ℕ
value_of (Is number) = number
value_of _ = 0

abbrev pub row_bytes : Row → List ℕ
row_bytes row = little_bytes (size_of row.width) (value_of row.wanted)

unfoldable pub rows_bytes : List Row → List ℕ
rows_bytes rows = flat_map row_bytes rows

-- given bytes, as rows of one byte each
unfoldable pub byte_rows : List ℕ → List Row
byte_rows bytes = map (λ byte. char (Is byte)) bytes

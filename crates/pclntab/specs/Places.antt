-- Where the fields of a function table stand, and what they say.
--
-- The header has 72 bytes: the magic number, two zero bytes, the quantum in which pc-value tables count places,
-- the size of a pointer, the numbers of functions and of files, the address of the text, and the offsets of five
-- tables, each of which reaches to the end of the bytes.
use Rattle.std.specs.Prelude.{ℕ, List, ◌+◌, ◌*◌, ◌==◌, if◌then◌else◌}
use Rattle.pclntab.specs.Words.{byte_at, u32_at, u64_at}

-- the magic number of the Go 1.20 form, and that of the Go 1.18 form, whose records have no line of the declaration
abbrev pub magic : ℕ
magic = 0xFFFF_FFF1

abbrev pub old_magic : ℕ
old_magic = 0xFFFF_FFF0

abbrev pub header_size : ℕ
header_size = 72

-- where the fields of the header stand
abbrev pub zeros_field : ℕ
zeros_field = 4

abbrev pub quantum_field : ℕ
quantum_field = 6

abbrev pub pointer_size_field : ℕ
pointer_size_field = 7

abbrev pub func_count_field : ℕ
func_count_field = 8

abbrev pub text_start_field : ℕ
text_start_field = 24

abbrev pub names_start_field : ℕ
names_start_field = 32

abbrev pub units_start_field : ℕ
units_start_field = 40

abbrev pub files_start_field : ℕ
files_start_field = 48

abbrev pub pcs_start_field : ℕ
pcs_start_field = 56

abbrev pub funcs_start_field : ℕ
funcs_start_field = 64

abbrev pub quantum : List ℕ → ℕ
quantum bytes = byte_at bytes quantum_field

abbrev pub pointer_size : List ℕ → ℕ
pointer_size bytes = byte_at bytes pointer_size_field

abbrev pub func_count : List ℕ → ℕ
func_count bytes = u64_at bytes func_count_field

abbrev pub text_start : List ℕ → ℕ
text_start bytes = u64_at bytes text_start_field

-- the offsets of the five tables: function names, units' files, file names, pc-value tables and functions
abbrev pub names_start : List ℕ → ℕ
names_start bytes = u64_at bytes names_start_field

abbrev pub units_start : List ℕ → ℕ
units_start bytes = u64_at bytes units_start_field

abbrev pub files_start : List ℕ → ℕ
files_start bytes = u64_at bytes files_start_field

abbrev pub pcs_start : List ℕ → ℕ
pcs_start bytes = u64_at bytes pcs_start_field

abbrev pub funcs_start : List ℕ → ℕ
funcs_start bytes = u64_at bytes funcs_start_field

-- The table of functions begins with a pair for each function by rising address: its entry, in bytes from the
-- text's address, and its record, in bytes from the table. The end of the last function stands behind the pairs.
abbrev pub pair_place : List ℕ → ℕ → ℕ
pair_place bytes index = funcs_start bytes + 8 * index

abbrev pub entry_offset : List ℕ → ℕ → ℕ
entry_offset bytes index = u32_at bytes (pair_place bytes index)

abbrev pub record_field : List ℕ → ℕ → ℕ
record_field bytes index = pair_place bytes index + 4

abbrev pub record_place : List ℕ → ℕ → ℕ
record_place bytes index = funcs_start bytes + u32_at bytes (record_field bytes index)

-- the size of the line of the declaration in a record
unfoldable pub line_size : List ℕ → ℕ
line_size bytes = if u32_at bytes 0 == old_magic then 0 else 4

-- A record has 44 bytes: the entry offset, the name's offset, the size of the arguments, a field for deferred
-- calls, the offsets of the depth, file and line tables, the number of further pc-value tables, the unit's offset,
-- the line of the declaration, and four bytes, of which the second holds flags and the last the number of further
-- data. In the Go 1.18 form it has 40 bytes, without the line. Behind it stands a word for each further table and for
-- each further datum.
abbrev pub record_size : List ℕ → ℕ
record_size bytes = 40 + line_size bytes

abbrev pub name_field : List ℕ → ℕ → ℕ
name_field bytes index = record_place bytes index + 4

abbrev pub args_field : List ℕ → ℕ → ℕ
args_field bytes index = record_place bytes index + 8

abbrev pub depth_field : List ℕ → ℕ → ℕ
depth_field bytes index = record_place bytes index + 16

abbrev pub file_field : List ℕ → ℕ → ℕ
file_field bytes index = record_place bytes index + 20

abbrev pub line_field : List ℕ → ℕ → ℕ
line_field bytes index = record_place bytes index + 24

abbrev pub tables_field : List ℕ → ℕ → ℕ
tables_field bytes index = record_place bytes index + 28

abbrev pub unit_field : List ℕ → ℕ → ℕ
unit_field bytes index = record_place bytes index + 32

abbrev pub flags_field : List ℕ → ℕ → ℕ
flags_field bytes index = record_place bytes index + 37 + line_size bytes

abbrev pub data_field : List ℕ → ℕ → ℕ
data_field bytes index = record_place bytes index + 39 + line_size bytes

-- the first place behind a record and the words that belong to it
abbrev pub record_end : List ℕ → ℕ → ℕ
record_end bytes index =
    record_place bytes index + record_size bytes + 4 * u32_at bytes (tables_field bytes index) + 4 * byte_at bytes (data_field bytes index)

abbrev pub name_place : List ℕ → ℕ → ℕ
name_place bytes index = names_start bytes + u32_at bytes (name_field bytes index)

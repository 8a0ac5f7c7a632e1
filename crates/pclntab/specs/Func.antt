-- What a function table tells of a function and of an address in it.
use Rattle.std.specs.Prelude.{ℕ, ℤ, pos, negsuc, Bool, List, ◌+◌, ◌-◌, ◌*◌, ◌<◌, ◌≤◌, ◌&&◌, nat_lt, nat_le, length, Option, Some, None, if◌then◌else◌}
use Rattle.std.specs.Int.{w32, cast_signed}
use Rattle.goasm_base.specs.Refusals.{first_below}
use Rattle.pcvalue.specs.declared.answer.Answer.{Answer}
use Rattle.pcvalue.specs.declared.answer.Answer.TheVariants.{Absent, Value, Past, Bad}
use Rattle.pcvalue.specs.Table.{value_in}
use Rattle.pcvalue.specs.Cover.{TellsOver}
use Rattle.pclntab.specs.Words.{byte_at, u32_at}
use Rattle.pclntab.specs.Places.{quantum, func_count, text_start, units_start, files_start, entry_offset, args_field, depth_field, file_field, line_field, unit_field, flags_field, name_place}
use Rattle.pclntab.specs.Texts.{text_at}
use Rattle.pclntab.specs.Table.{pc_bytes}

-- a function of a table, by its number in the order of entries
pub record FuncView : Type 0 where
  pub bytes : List ℕ
  pub index : ℕ

-- the addresses of a function's first instruction and of the first place behind it
abbrev pub entry_of : List ℕ → ℕ → ℕ
entry_of bytes index = text_start bytes + entry_offset bytes index

abbrev pub end_of : List ℕ → ℕ → ℕ
end_of bytes index = text_start bytes + entry_offset bytes (index + 1)

-- whether an address lies in a function's range
abbrev pub has_pc : List ℕ → ℕ → ℕ → Bool
has_pc bytes pc index = nat_le (entry_of bytes index) pc && nat_lt pc (end_of bytes index)

pub record HasPc (bytes : List ℕ) (index pc : ℕ) : Type 0 where
  pub from : entry_of bytes index ≤ pc
  pub before : pc < end_of bytes index

-- a function's number, where it has an address
abbrev pub index_if : List ℕ → ℕ → ℕ → Option ℕ
index_if bytes pc index = if has_pc bytes pc index then Some index else None

-- the number of the function that has an address
unfoldable pub func_at : List ℕ → ℕ → Option ℕ
func_at bytes pc = first_below (func_count bytes) (index_if bytes pc)

abbrev pub name_of : List ℕ → ℕ → Option (List ℕ)
name_of bytes index = text_at bytes (name_place bytes index)

-- the size of a function's arguments in bytes, or -2 ^ 31 where it isn't known
abbrev pub args_of : List ℕ → ℕ → ℤ
args_of bytes index = cast_signed w32 (u32_at bytes (args_field bytes index))

-- 1: a stack ends in the function; 2: it writes the stack pointer in a way that no table tells; 4: it is written in assembly
abbrev pub flags_of : List ℕ → ℕ → ℕ
flags_of bytes index = byte_at bytes (flags_field bytes index)

-- what the pc-value table that a record's field names says of an address
unfoldable pub answer_at : List ℕ → ℕ → ℕ → ℕ → Answer
answer_at bytes index field pc =
    value_in (pc_bytes bytes) (u32_at bytes field) (quantum bytes) (pc - entry_of bytes index)

-- the stack depth in bytes: how far below its value at the entry the stack pointer is
abbrev pub depth_at : List ℕ → ℕ → ℕ → Answer
depth_at bytes index pc = answer_at bytes index (depth_field bytes index) pc

abbrev pub line_at : List ℕ → ℕ → ℕ → Answer
line_at bytes index pc = answer_at bytes index (line_field bytes index) pc

-- the pc-value table that a record's field names gives these values to stretches of the function, one behind the other from
-- its entry on, each up to its end in bytes from there
abbrev pub FieldTellsOver : List ℕ → ℕ → List ℕ → List ℤ → Type 0
FieldTellsOver bytes field ends values = TellsOver (pc_bytes bytes) (u32_at bytes field) (quantum bytes) ends values

-- the stack depths of stretches of a function
abbrev pub DepthsOver : List ℕ → ℕ → List ℕ → List ℤ → Type 0
DepthsOver bytes index ends values = FieldTellsOver bytes (depth_field bytes index) ends values

-- their lines
abbrev pub LinesOver : List ℕ → ℕ → List ℕ → List ℤ → Type 0
LinesOver bytes index ends values = FieldTellsOver bytes (line_field bytes index) ends values

-- and their files, as numbers in the table of units
abbrev pub FilesOver : List ℕ → ℕ → List ℕ → List ℤ → Type 0
FilesOver bytes index ends values = FieldTellsOver bytes (file_field bytes index) ends values

-- the name of the file with this number in the table of units: a word there is the offset of a name
unfoldable pub file_name : List ℕ → ℕ → Option (List ℕ)
file_name bytes number =
    if nat_le (units_start bytes + 4 * number + 4) (length bytes)
    then text_at bytes (files_start bytes + u32_at bytes (units_start bytes + 4 * number))
    else None

-- the file whose number counts from a unit's first; a number below 0 means none
abbrev pub numbered_from : List ℕ → ℕ → ℤ → Option (List ℕ)
numbered_from bytes unit (pos number) = file_name bytes (number + unit)
numbered_from bytes unit (negsuc _) = None

abbrev pub named_by : List ℕ → ℕ → Answer → Option (List ℕ)
named_by bytes unit (Value number) = numbered_from bytes unit number
named_by bytes unit Absent = None
named_by bytes unit Past = None
named_by bytes unit Bad = None

-- the file of an address; `None` where there is no value, it is below 0, or its word or name lies outside
abbrev pub file_at : List ℕ → ℕ → ℕ → Option (List ℕ)
file_at bytes index pc =
    named_by bytes (u32_at bytes (unit_field bytes index)) (answer_at bytes index (file_field bytes index) pc)

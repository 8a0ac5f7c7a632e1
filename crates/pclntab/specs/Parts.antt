-- From which parts a function table can be written, and what it tells of them.
use Rattle.std.specs.Prelude.{◌≡◌, ◌⊎◌, ℕ, ℤ, pos, negsuc, List, [], ◌+◌, ◌-◌, ◌^◌, ◌<◌, ◌≤◌, All, length, take_while, not, FitsSigned, Option, Some, None, slice_index_or, true}
use Rattle.std.specs.Int.{w32}
use Rattle.pcvalue.specs.declared.run.Run.{Run}
use Rattle.pcvalue.specs.declared.answer.Answer.{Answer}
use Rattle.pcvalue.specs.declared.answer.Answer.TheVariants.{Absent, Value, Past, Bad}
use Rattle.pcvalue.specs.Table.{value_of}
use Rattle.pcvalue.specs.Cover.{Covers}
use Rattle.pcvalue.specs.Writing.{AreRuns}
use Rattle.pclntab.specs.declared.parts.TableParts.{TableParts}
use Rattle.pclntab.specs.declared.parts.FuncPart.{FuncPart}
use Rattle.pclntab.specs.Words.{u32_at}
use Rattle.pclntab.specs.Places.{quantum, func_count, text_start, entry_offset, unit_field}
use Rattle.pclntab.specs.Texts.{is_zero}
use Rattle.pclntab.specs.Func.{entry_of, name_of, args_of, flags_of, depth_at, line_at, file_at, DepthsOver, LinesOver, FilesOver, numbered_from}
use Rattle.pclntab.specs.Written.{written}

-- the number of one of so many files
abbrev pub IsFile : ℕ → Run → Type 0
IsFile count run = (number : ℕ) × (run.value ≡ pos number) × (number < count)

-- A function's numbers fit their fields, its three lists can be pc-value tables, and the values of its file list are
-- indices of files.
pub record IsFuncPart (quantum files : ℕ) (func : FuncPart) : Type 0 where
  pub entry : func.entry < 2 ^ 32
  pub args : FitsSigned w32 func.args
  pub flags : func.flags < 2 ^ 8
  pub start_line : FitsSigned w32 func.start_line
  pub depth : AreRuns quantum func.depth
  pub file : AreRuns quantum func.file
  pub line : AreRuns quantum func.line
  pub indices : All (IsFile files) func.file

-- no function begins before the one that stands before it
abbrev pub EntriesRise : List FuncPart → Type 0
EntriesRise funcs =
    (index : ℕ) (d : FuncPart) → index + 1 < length funcs
    → (slice_index_or funcs index d).entry ≤ (slice_index_or funcs (index + 1) d).entry

-- parts from which a table can be written
pub record AreParts (parts : TableParts) : Type 0 where
  pub quantum : (parts.quantum ≡ 1) ⊎ (parts.quantum ≡ 2) ⊎ (parts.quantum ≡ 4)
  pub text_start : parts.text_start ≤ 2 ^ 64 - 2 ^ 32
  pub text_len : parts.text_len < 2 ^ 32
  pub order : EntriesRise parts.funcs
  pub funcs : All (IsFuncPart parts.quantum (length parts.files)) parts.funcs
  pub short : length (written parts) < 2 ^ 32

-- a name up to its first zero byte
abbrev pub to_zero : List ℕ → List ℕ
to_zero name = take_while (λ byte. not (is_zero byte)) name

-- the name of the file whose index a look-up answered
abbrev pub file_of : List (List ℕ) → Answer → Option (List ℕ)
file_of files (Value (pos index)) = Some (to_zero (slice_index_or files index []))
file_of files (Value (negsuc _)) = None
file_of files Absent = None
file_of files Past = None
file_of files Bad = None

-- What a table tells of an address in a function: the values of the function's three lists, with names for file numbers.
pub record TellsPc (parts : TableParts) (bytes : List ℕ) (index : ℕ) (func : FuncPart) (pc : ℕ) : Type 0 where
  pub depth : depth_at bytes index pc ≡ value_of (pc - entry_of bytes index) func.depth true
  pub line : line_at bytes index pc ≡ value_of (pc - entry_of bytes index) func.line true
  pub file : file_at bytes index pc ≡ file_of parts.files (value_of (pc - entry_of bytes index) func.file true)

-- what it tells of a function
pub record TellsFunc (parts : TableParts) (bytes : List ℕ) (index : ℕ) (func : FuncPart) : Type 0 where
  pub entry : entry_of bytes index ≡ parts.text_start + func.entry
  pub name : name_of bytes index ≡ Some (to_zero func.name)
  pub args : args_of bytes index ≡ func.args
  pub flags : flags_of bytes index ≡ func.flags
  pub pc : (pc : ℕ) → TellsPc parts bytes index func pc

-- what it tells of all
pub record Tells (parts : TableParts) (bytes : List ℕ) : Type 0 where
  pub count : func_count bytes ≡ length parts.funcs
  pub start : text_start bytes ≡ parts.text_start
  pub funcs : (index : ℕ) (d : FuncPart) → index < length parts.funcs
      → TellsFunc parts bytes index (slice_index_or parts.funcs index d)
  -- where a further function would begin, the last one ends: with the text
  pub last : entry_of bytes (length parts.funcs) ≡ parts.text_start + parts.text_len

-- What it tells of stretches of a function: where a list of the function gives them these values, the table that the field
-- for that list names is in its least form and gives them the same.
pub record TellsStretches (bytes : List ℕ) (index : ℕ) (func : FuncPart) : Type 0 where
  pub depths : (ends : List ℕ) (values : List ℤ) → Covers 0 ends values func.depth → DepthsOver bytes index ends values
  pub lines : (ends : List ℕ) (values : List ℤ) → Covers 0 ends values func.line → LinesOver bytes index ends values
  pub files : (ends : List ℕ) (values : List ℤ) → Covers 0 ends values func.file → FilesOver bytes index ends values

-- what it tells beside single addresses: its numbers as they were given, stretches, and the name of each file's number
pub record TellsAll (parts : TableParts) (bytes : List ℕ) : Type 0 where
  pub unit : quantum bytes ≡ parts.quantum
  pub entries : (index : ℕ) (d : FuncPart) → index < length parts.funcs
      → entry_offset bytes index ≡ (slice_index_or parts.funcs index d).entry
  pub last : entry_offset bytes (length parts.funcs) ≡ parts.text_len
  pub stretches : (index : ℕ) (d : FuncPart) → index < length parts.funcs
      → TellsStretches bytes index (slice_index_or parts.funcs index d)
  pub files : (index number : ℕ) → index < length parts.funcs → number < length parts.files
      → numbered_from bytes (u32_at bytes (unit_field bytes index)) (pos number)
      ≡ Some (to_zero (slice_index_or parts.files number []))

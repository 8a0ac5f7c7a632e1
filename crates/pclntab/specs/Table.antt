-- What a function table is, in the Go 1.20 form or in the Go 1.18 form.
use Rattle.std.specs.Prelude.{◌≡◌, ◌⊎◌, ℕ, List, ◌+◌, ◌-◌, ◌^◌, ◌<◌, ◌≤◌, length, drop, IsTrue}
use Rattle.pcvalue.specs.Table.{IsPcTable}
use Rattle.pclntab.specs.Words.{byte_at, u32_at}
use Rattle.pclntab.specs.Places.{magic, old_magic, header_size, zeros_field, quantum, pointer_size, func_count, text_start, names_start, units_start, files_start, pcs_start, funcs_start, pair_place, entry_offset, record_place, record_size, record_end, depth_field, file_field, line_field, name_place}
use Rattle.pclntab.specs.Texts.{ends_at}

-- a header for a 64-bit program whose places count quanta of 1, 2 or 4 bytes, and whose addresses don't pass 2 ^ 64
pub record IsHeader (bytes : List ℕ) : Type 0 where
  pub magic : (u32_at bytes 0 ≡ magic) ⊎ (u32_at bytes 0 ≡ old_magic)
  pub length : header_size ≤ length bytes
  pub zeros : (byte_at bytes zeros_field ≡ 0) × (byte_at bytes (zeros_field + 1) ≡ 0)
  pub quantum : (quantum bytes ≡ 1) ⊎ (quantum bytes ≡ 2) ⊎ (quantum bytes ≡ 4)
  pub pointers : pointer_size bytes ≡ 8
  pub text : text_start bytes ≤ 2 ^ 64 - 2 ^ 32

-- the five tables begin within the bytes, and the pairs and the end of the last function lie there
pub record HasTables (bytes : List ℕ) : Type 0 where
  pub names : names_start bytes ≤ length bytes
  pub units : units_start bytes ≤ length bytes
  pub files : files_start bytes ≤ length bytes
  pub pcs : pcs_start bytes ≤ length bytes
  pub funcs : funcs_start bytes ≤ length bytes
  pub pairs : pair_place bytes (func_count bytes) + 4 ≤ length bytes

-- no function begins before the one that stands before it
abbrev pub HasOrder : List ℕ → Type 0
HasOrder bytes =
    (index : ℕ) → index + 1 < func_count bytes → entry_offset bytes index ≤ entry_offset bytes (index + 1)

-- the bytes that hold the pc-value tables
abbrev pub pc_bytes : List ℕ → List ℕ
pc_bytes bytes = drop (pcs_start bytes) bytes

-- the field names a whole pc-value table, or none
abbrev pub NamesPcTable : List ℕ → ℕ → Type 0
NamesPcTable bytes field = IsPcTable (pc_bytes bytes) (u32_at bytes field) (quantum bytes)

-- a function's record and the words behind it lie within the bytes
pub record HasRecord (bytes : List ℕ) (index : ℕ) : Type 0 where
  pub fits : record_place bytes index + record_size bytes ≤ length bytes
  pub words : record_end bytes index ≤ length bytes

-- its name does too, up to a zero byte
pub record HasName (bytes : List ℕ) (index : ℕ) : Type 0 where
  pub within : name_place bytes index ≤ length bytes
  pub ended : IsTrue (ends_at bytes (name_place bytes index))

-- the record of a function, with its name and its three tables
pub record IsFunc (bytes : List ℕ) (index : ℕ) : Type 0 where
  pub fits : HasRecord bytes index
  pub name : HasName bytes index
  pub depth : NamesPcTable bytes (depth_field bytes index)
  pub file : NamesPcTable bytes (file_field bytes index)
  pub line : NamesPcTable bytes (line_field bytes index)

pub record IsTable (bytes : List ℕ) : Type 0 where
  pub header : IsHeader bytes
  pub tables : HasTables bytes
  pub order : HasOrder bytes
  pub funcs : (index : ℕ) → index < func_count bytes → IsFunc bytes index

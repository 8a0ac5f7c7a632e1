-- What the later steps of reading a table know from the earlier ones.
use Rattle.std.specs.Prelude.{ℕ, List, ◌^◌, ◌<◌, ◌≤◌, length, Option}
use Rattle.memchr.specs.Find.{IsLastByte, is_byte}
use Rattle.pclntab.specs.Places.{header_size, func_count}
use Rattle.pclntab.specs.Table.{HasTables, IsTable}
use Rattle.pclntab.specs.Func.{entry_of}

-- a table whose header is whole and whose five tables begin within the bytes
pub record IsReady (bytes : List ℕ) : Type 0 where
  pub long : header_size ≤ length bytes
  pub short : length bytes < 2 ^ 32
  pub tables : HasTables bytes

-- a table that was read
pub record IsRead (bytes : List ℕ) : Type 0 where
  pub short : length bytes < 2 ^ 32
  pub table : IsTable bytes

-- a table that was read, with the place of its last zero byte
pub record IsReadTo (bytes : List ℕ) (last_zero : Option ℕ) : Type 0 where
  pub read : IsRead bytes
  pub last : IsLastByte (is_byte 0) bytes last_zero

-- the bytes of the pc-value tables, and the quantum in which these count places
pub record PcTablesView : Type 0 where
  pub bytes : List ℕ
  pub quantum : ℕ

-- a function of a table that was read
pub record IsFuncOf (bytes : List ℕ) (index : ℕ) : Type 0 where
  pub table : IsRead bytes
  pub within : index < func_count bytes

-- the functions below a number begin at or before an address, and those from it on behind the address
pub record IsBegun (bytes : List ℕ) (pc count : ℕ) : Type 0 where
  pub within : count ≤ func_count bytes
  pub begun : (index : ℕ) → index < count → entry_of bytes index ≤ pc
  pub later : (index : ℕ) → count ≤ index → index < func_count bytes → pc < entry_of bytes index

-- How a function table is written: the header, then names, units' files, file names, pc-value tables and functions, each
-- at the next multiple of 8 with zeros before it.
use Rattle.std.specs.Prelude.{ℕ, Bool, List, [], ◌∷◌, ◌++◌, ◌+◌, ◌*◌, length, map, bytes_eq, if◌then◌else◌}
use Rattle.std.specs.List.{flat_map, list_any, sum_by}
use Rattle.std.specs.Int.{w32, cast_unsigned}
use Rattle.byteorder.specs.Endian.{little_bytes}
use Rattle.byte_layout.specs.Joined.{joined, places}
use Rattle.pcvalue.specs.Writing.{table_bytes}
use Rattle.pclntab.specs.declared.parts.TableParts.{TableParts}
use Rattle.pclntab.specs.declared.parts.FuncPart.{FuncPart}
use Rattle.pclntab.specs.Places.{magic, header_size}

-- a text and the zero byte that ends it
unfoldable pub text_bytes : List ℕ → List ℕ
text_bytes text = text ++ 0 ∷ []

unfoldable pub texts : List (List ℕ) → List ℕ
texts list = flat_map text_bytes list

-- where each of the texts begins, the first at a place
unfoldable pub starts : ℕ → List (List ℕ) → List ℕ
starts at [] = []
starts at (text ∷ others) = at ∷ starts (at + length (text_bytes text)) others

-- numbers of four bytes and of eight
unfoldable pub words : List ℕ → List ℕ
words numbers = flat_map (little_bytes 4) numbers

unfoldable pub longs : List ℕ → List ℕ
longs numbers = flat_map (little_bytes 8) numbers

-- The pc-value tables of functions are kept in the order in which they come first, equal ones once.
abbrev pub has_table : List (List ℕ) → List ℕ → Bool
has_table tables table = list_any (bytes_eq table) tables

unfoldable pub kept : List (List ℕ) → List ℕ → List (List ℕ)
kept tables table = if has_table tables table then tables else tables ++ table ∷ []

unfoldable pub all_kept : List (List ℕ) → List (List ℕ) → List (List ℕ)
all_kept tables [] = tables
all_kept tables (next ∷ others) = all_kept (kept tables next) others

-- the depth, file and line table of a function
abbrev pub tables_of : ℕ → FuncPart → List (List ℕ)
tables_of quantum func =
    table_bytes quantum func.depth ∷ table_bytes quantum func.file ∷ table_bytes quantum func.line ∷ []

unfoldable pub kept_of : TableParts → List (List ℕ)
kept_of parts = all_kept [] (flat_map (tables_of parts.quantum) parts.funcs)

-- they stand behind one zero byte, so that none has the offset 0
unfoldable pub stored : List (List ℕ) → List ℕ
stored tables = 0 ∷ flat_map (λ table. table) tables

-- how many bytes stand before a table
unfoldable pub length_before : List (List ℕ) → List ℕ → ℕ
length_before [] table = 0
length_before (next ∷ others) table = if bytes_eq table next then 0 else length next + length_before others table

-- a table's offset
abbrev pub offset_of : List (List ℕ) → List ℕ → ℕ
offset_of tables table = 1 + length_before tables table

-- a function with the place of its name
pub record Row : Type 0 where
  pub name : ℕ
  pub func : FuncPart

unfoldable pub rows : ℕ → List FuncPart → List Row
rows name [] = []
rows name (func ∷ funcs) =
    record { name = name; func = func } ∷ rows (name + length (text_bytes func.name)) funcs

-- the fields of four bytes of a function's record, in their order
abbrev pub fields : ℕ → List (List ℕ) → Row → List ℕ
fields quantum tables row =
    row.func.entry ∷ row.name ∷ cast_unsigned w32 row.func.args ∷ 0
    ∷ offset_of tables (table_bytes quantum row.func.depth)
    ∷ offset_of tables (table_bytes quantum row.func.file)
    ∷ offset_of tables (table_bytes quantum row.func.line)
    ∷ 0 ∷ 0 ∷ cast_unsigned w32 row.func.start_line ∷ []

unfoldable pub record_bytes : ℕ → List (List ℕ) → Row → List ℕ
record_bytes quantum tables row = words (fields quantum tables row) ++ 0 ∷ row.func.flags ∷ 0 ∷ 0 ∷ []

unfoldable pub records : TableParts → List ℕ
records parts = flat_map (record_bytes parts.quantum (kept_of parts)) (rows 0 parts.funcs)

-- the pair of each function: its entry, and where its record stands, the first at a place
unfoldable pub pairs : ℕ → List FuncPart → List ℕ
pairs at [] = []
pairs at (func ∷ funcs) = func.entry ∷ at ∷ pairs (at + 44) funcs

-- the records stand behind the pairs and the end of the last function
abbrev pub first_record : TableParts → ℕ
first_record parts = 8 * length parts.funcs + 4

unfoldable pub funcs_bytes : TableParts → List ℕ
funcs_bytes parts = words (pairs (first_record parts) parts.funcs ++ parts.text_len ∷ []) ++ records parts

abbrev pub names_of : List FuncPart → List (List ℕ)
names_of funcs = map (λ func. func.name) funcs

-- the five tables behind the header
abbrev pub tables : TableParts → List (List ℕ)
tables parts =
    texts (names_of parts.funcs) ∷ words (starts 0 parts.files) ∷ texts parts.files ∷ stored (kept_of parts)
    ∷ funcs_bytes parts ∷ []

-- a header over five tables
unfoldable pub header_over : TableParts → List (List ℕ) → List ℕ
header_over parts five =
    little_bytes 4 magic ++ (0 ∷ 0 ∷ parts.quantum ∷ 8 ∷ []
    ++ longs (length parts.funcs ∷ length parts.files ∷ parts.text_start ∷ places 8 header_size five))

unfoldable pub written_over : TableParts → List (List ℕ) → List ℕ
written_over parts five = joined 8 (header_over parts five) five

unfoldable pub written : TableParts → List ℕ
written parts = written_over parts (tables parts)

-- how many runs the three lists of a function have
abbrev pub run_count : FuncPart → ℕ
run_count func = length func.depth + length func.file + length func.line

-- No written table is longer. A run takes at most ten bytes, since its two numbers take at most five each; a function 55,
-- for its pair, its record and the ends of its three pc-value tables; a file four, for the offset of its name. The header,
-- the gaps, the zero byte before the pc-value tables and the end of the last function take at most 112.
abbrev pub length_bound : TableParts → ℕ
length_bound parts =
    112 + length (texts (names_of parts.funcs)) + length (texts parts.files) + 4 * length parts.files
    + 55 * length parts.funcs + 10 * sum_by run_count parts.funcs

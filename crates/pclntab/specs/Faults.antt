-- The first fault of a function table, in the order in which a table is read.
use Rattle.std.specs.Prelude.{◌≡◌, ℕ, Bool, List, ◌+◌, ◌-◌, ◌^◌, ◌==◌, ◌&&◌, ◌||◌, nat_le, length, Option, Some, None, Result, Ok, Err, if◌then◌else◌}
use Rattle.std.specs.Option.{option_or}
use Rattle.goasm_base.specs.Refusals.{first_below}
use Rattle.pcvalue.specs.Table.{is_pc_table}
use Rattle.pclntab.specs.declared.fault.TableNo.{TableNo}
use Rattle.pclntab.specs.declared.fault.TableNo.TheVariants.{TB1, TB2, TB3, TB4, TB5, TB6}
use Rattle.pclntab.specs.Words.{byte_at, u32_at}
use Rattle.pclntab.specs.Places.{magic, old_magic, header_size, zeros_field, quantum_field, pointer_size_field, text_start_field, names_start_field, units_start_field, files_start_field, pcs_start_field, funcs_start_field, quantum, pointer_size, func_count, text_start, names_start, units_start, files_start, pcs_start, funcs_start, pair_place, entry_offset, record_field, record_place, record_size, record_end, name_field, depth_field, file_field, line_field, name_place}
use Rattle.pclntab.specs.Texts.{ends_at}
use Rattle.pclntab.specs.Table.{pc_bytes}

-- the fault of a test that fails, else the first of what is read after it
abbrev pub unless : Bool → TableNo → Option TableNo → Option TableNo
unless test fault others = if test then others else Some fault

unfoldable pub header_fault : List ℕ → Option TableNo
header_fault bytes =
    unless (nat_le 4 (length bytes) && (u32_at bytes 0 == magic || u32_at bytes 0 == old_magic)) (TB1 0)
    (unless (nat_le header_size (length bytes)) (TB2 (length bytes))
    (unless (byte_at bytes zeros_field == 0 && byte_at bytes (zeros_field + 1) == 0) (TB2 zeros_field)
    (unless (quantum bytes == 1 || quantum bytes == 2 || quantum bytes == 4) (TB2 quantum_field)
    (unless (pointer_size bytes == 8) (TB2 pointer_size_field)
    (unless (nat_le (text_start bytes) (2 ^ 64 - 2 ^ 32)) (TB2 text_start_field) None)))))

unfoldable pub tables_fault : List ℕ → Option TableNo
tables_fault bytes =
    unless (nat_le (names_start bytes) (length bytes)) (TB4 names_start_field)
    (unless (nat_le (units_start bytes) (length bytes)) (TB4 units_start_field)
    (unless (nat_le (files_start bytes) (length bytes)) (TB4 files_start_field)
    (unless (nat_le (pcs_start bytes) (length bytes)) (TB4 pcs_start_field)
    (unless (nat_le (funcs_start bytes) (length bytes)) (TB4 funcs_start_field)
    (unless (nat_le (pair_place bytes (func_count bytes) + 4) (length bytes)) (TB4 funcs_start_field) None)))))

-- the entry of the function behind this one is below it
unfoldable pub entry_fault : List ℕ → ℕ → Option TableNo
entry_fault bytes index =
    unless (nat_le (entry_offset bytes index) (entry_offset bytes (index + 1))) (TB3 (pair_place bytes (index + 1))) None

unfoldable pub order_fault : List ℕ → Option TableNo
order_fault bytes = first_below (func_count bytes - 1) (entry_fault bytes)

unfoldable pub record_fault : List ℕ → ℕ → Option TableNo
record_fault bytes index =
    unless (nat_le (record_place bytes index + record_size bytes) (length bytes)) (TB4 (record_field bytes index))
    (unless (nat_le (record_end bytes index) (length bytes)) (TB4 (record_field bytes index)) None)

unfoldable pub name_fault : List ℕ → ℕ → Option TableNo
name_fault bytes index =
    unless (nat_le (name_place bytes index) (length bytes)) (TB4 (name_field bytes index))
    (unless (ends_at bytes (name_place bytes index)) (TB6 (name_field bytes index)) None)

-- the field at this place names no pc-value table
unfoldable pub pc_fault : List ℕ → ℕ → Option TableNo
pc_fault bytes field = unless (is_pc_table (pc_bytes bytes) (u32_at bytes field) (quantum bytes)) (TB5 field) None

unfoldable pub func_fault : List ℕ → ℕ → Option TableNo
func_fault bytes index =
    option_or (record_fault bytes index)
    (option_or (name_fault bytes index)
    (option_or (pc_fault bytes (depth_field bytes index))
    (option_or (pc_fault bytes (file_field bytes index)) (pc_fault bytes (line_field bytes index)))))

unfoldable pub table_fault : List ℕ → Option TableNo
table_fault bytes =
    option_or (header_fault bytes)
    (option_or (tables_fault bytes)
    (option_or (order_fault bytes) (first_below (func_count bytes) (func_fault bytes))))

-- a part is read exactly where it has no fault, and is otherwise refused with its first
abbrev pub Judges : {T : Type 0} → Result T TableNo → Option TableNo → Type 0
Judges (Ok read) fault = fault ≡ None
Judges (Err found) fault = fault ≡ Some found

-- What a written table tells of its functions, and that it is a table.
use Rattle.std.proofs.Common.{◌≡◌, ℕ, ℤ, zero, suc, pos, ◌+◌, ◌-◌, ◌*◌, ◌^◌, ◌<◌, ◌≤◌, ◌⊎◌, inl, inr, true, nat_le, List, [], ◌∷◌, ◌++◌, length, drop, get_or, slice_index, Some, refl, ap, arith}
use Rattle.std.specs.List.{flat_map}
use Rattle.std.specs.Int.{w32, cast_unsigned}
use Rattle.std.specs.Int.RustNames.{FitsSigned}
use Rattle.std.proofs.Math.Facts.{Fits-of_z, to_z-of_z}
use Rattle.std.proofs.lemmas.Bool.{lt-ltb, le-ltb, cases_lt}
use Rattle.std.proofs.lemmas.Bool.Decides.{nat_tests}
use Rattle.byte_layout.specs.Stands.{Stands}
use Rattle.byte_layout.proofs.StandsLemmas.{stands_in, stands_from, stands_within, stands_byte}
use Rattle.pcvalue.specs.declared.run.Run.{Run}
use Rattle.pcvalue.specs.declared.answer.Answer.TheVariants.{Value, Past}
use Rattle.pcvalue.specs.Table.{value_of, value_in}
use Rattle.pcvalue.specs.Cover.{Covers, TellsOver}
use Rattle.pcvalue.specs.Writing.{table_bytes, AreRuns}
use Rattle.pcvalue.proofs.LeastLemmas.{table_least}
use Rattle.pcvalue.proofs.WritingLemmas.{some_table_bytes, table_stands}
use Rattle.pcvalue.proofs.ValueLemmas.{values_stand, table_is}
use Rattle.pclntab.specs.declared.parts.TableParts.{TableParts}
use Rattle.pclntab.specs.declared.parts.FuncPart.{FuncPart}
use Rattle.pclntab.specs.Words.{u32_at}
use Rattle.pclntab.specs.Places.{quantum, record_place, name_place, depth_field, file_field, line_field, unit_field}
use Rattle.pclntab.specs.Table.{IsHeader, HasTables, HasOrder, IsFunc, IsTable, NamesPcTable, pc_bytes}
use Rattle.pclntab.specs.Func.{entry_of, name_of, args_of, flags_of, answer_at, FieldTellsOver, file_name, named_by}
use Rattle.pclntab.specs.Written.{texts, has_table, all_kept, tables_of, kept_of, stored, offset_of, header_over, tables, names_of, written}
use Rattle.pclntab.specs.Parts.{AreParts, IsFile, to_zero, file_of, TellsPc, Tells, TellsAll}
use Rattle.pclntab.proofs.StockLemmas.{still_all_kept, all_kept-append, stored_stands}
use Rattle.pclntab.proofs.FuncLemmas.{has_depth, has_file, has_line}
use Rattle.pclntab.proofs.LengthLemmas.{length-header, length-funcs_bytes, part_within, words_fit}
use Rattle.pclntab.proofs.ReadLemmas.{text_read}
use Rattle.pclntab.proofs.HeaderLemmas.{start_of, part_stands, header_stands, ident_stands, magic_read, start_within, told}
use Rattle.pclntab.proofs.RowLemmas.{entry_read, place_read, end_read, name_start, name_read, name_start_within, record_start, field_read, flags_read, data_read, record_within, unit_read, unit_within, file_read}

-- the pc-value tables

-- a table of each function is kept
has_of : (quantum : ℕ) (funcs : List FuncPart) (stock : List (List ℕ)) (index : ℕ) (d : FuncPart) (table : FuncPart → List ℕ)
    → ((kept : List (List ℕ)) (func : FuncPart) → has_table (all_kept kept (tables_of quantum func)) (table func) ≡ true)
    → index < length funcs → has_table (all_kept stock (flat_map (tables_of quantum) funcs)) (table (get_or funcs index d)) ≡ true
has_of quantum [] stock index d table has inside = absurd (omega arith)
has_of quantum (func ∷ funcs) stock zero d table has inside =
    rw (all_kept-append stock (tables_of quantum func) (flat_map (tables_of quantum) funcs))
    (still_all_kept (all_kept stock (tables_of quantum func)) (flat_map (tables_of quantum) funcs) (table func) (has stock func))
has_of quantum (func ∷ funcs) stock (suc index) d table has inside =
    rw (all_kept-append stock (tables_of quantum func) (flat_map (tables_of quantum) funcs))
    (has_of quantum funcs (all_kept stock (tables_of quantum func)) index d table has (omega arith))

depth_kept : (parts : TableParts) (index : ℕ) (d : FuncPart) → index < length parts.funcs
    → has_table (kept_of parts) (table_bytes parts.quantum (get_or parts.funcs index d).depth) ≡ true
unfolding kept_of
depth_kept parts index d inside =
    has_of parts.quantum parts.funcs [] index d (λ func. table_bytes parts.quantum func.depth) (λ kept func. has_depth kept parts.quantum func) inside

file_kept : (parts : TableParts) (index : ℕ) (d : FuncPart) → index < length parts.funcs
    → has_table (kept_of parts) (table_bytes parts.quantum (get_or parts.funcs index d).file) ≡ true
unfolding kept_of
file_kept parts index d inside =
    has_of parts.quantum parts.funcs [] index d (λ func. table_bytes parts.quantum func.file) (λ kept func. has_file kept parts.quantum func) inside

line_kept : (parts : TableParts) (index : ℕ) (d : FuncPart) → index < length parts.funcs
    → has_table (kept_of parts) (table_bytes parts.quantum (get_or parts.funcs index d).line) ≡ true
unfolding kept_of
line_kept parts index d inside =
    has_of parts.quantum parts.funcs [] index d (λ func. table_bytes parts.quantum func.line) (λ kept func. has_line kept parts.quantum func) inside

pc_stands : (parts : TableParts) (table : List ℕ) → has_table (kept_of parts) table ≡ true
    → Stands (drop (start_of parts 3) (written parts)) (offset_of (kept_of parts) table) table
pc_stands parts table has =
    stands_from (written parts) table (start_of parts 3) (offset_of (kept_of parts) table)
    (stands_in (written parts) (stored (kept_of parts)) table (start_of parts 3) (offset_of (kept_of parts) table)
    (part_stands parts 3 (omega arith)) (stored_stands (kept_of parts) table has))

offset_short : (parts : TableParts) (runs : List Run) → AreParts parts → has_table (kept_of parts) (table_bytes parts.quantum runs) ≡ true
    → offset_of (kept_of parts) (table_bytes parts.quantum runs) < 2 ^ 32
offset_short parts runs are has =
    let fit : length (stored (kept_of parts)) < 2 ^ 32 = (words_fit parts are).pcs in
    let some : 0 < length (table_bytes parts.quantum runs) = some_table_bytes parts.quantum runs in
    let within : offset_of (kept_of parts) (table_bytes parts.quantum runs) + length (table_bytes parts.quantum runs) ≤ length (stored (kept_of parts))
    = stands_within (stored (kept_of parts)) (table_bytes parts.quantum runs) (offset_of (kept_of parts) (table_bytes parts.quantum runs))
    (stored_stands (kept_of parts) (table_bytes parts.quantum runs) has) some in
    omega arith

-- a field names the table of these runs
record Names (bytes : List ℕ) (field : ℕ) (runs : List Run) : Type 0 where
  is : NamesPcTable bytes field
  value : (place : ℕ) → value_in (pc_bytes bytes) (u32_at bytes field) (quantum bytes) place ≡ value_of place runs true
  over : (ends : List ℕ) (values : List ℤ) → Covers 0 ends values runs → FieldTellsOver bytes field ends values

-- a table that was written tells its runs' values of stretches
over_stands : (quantum : ℕ) (runs : List Run) (table more : List ℕ) (offset : ℕ) (ends : List ℕ) (values : List ℤ)
    → AreRuns quantum runs → drop offset table ≡ table_bytes quantum runs ++ more → 0 < offset → Covers 0 ends values runs
    → TellsOver table offset quantum ends values
over_stands quantum runs table more offset ends values are stands some covers =
    record {
      named = some;
      least = rw stands (table_least quantum runs more are);
      covers = rw (table_stands quantum runs table more offset are stands) covers;
    }

names : (parts : TableParts) (field : ℕ) (runs : List Run) → AreParts parts → AreRuns parts.quantum runs
    → has_table (kept_of parts) (table_bytes parts.quantum runs) ≡ true
    → u32_at (written parts) field ≡ offset_of (kept_of parts) (table_bytes parts.quantum runs)
    → Names (written parts) field runs
names parts field runs are_parts are has known =
    let found = told parts are_parts in
    let stands = pc_stands parts (table_bytes parts.quantum runs) has in
    record {
      is = rw (found.pcs, found.unit, known)
          (table_is parts.quantum runs (drop (start_of parts 3) (written parts)) stands.behind (offset_of (kept_of parts) (table_bytes parts.quantum runs)) are stands.is (omega arith));
      value = λ place. rw (found.pcs, found.unit, known)
          (values_stand parts.quantum runs (drop (start_of parts 3) (written parts)) stands.behind (offset_of (kept_of parts) (table_bytes parts.quantum runs)) place are stands.is (omega arith));
      over = λ ends values covers. rw (found.pcs, found.unit, known)
          (over_stands parts.quantum runs (drop (start_of parts 3) (written parts)) stands.behind (offset_of (kept_of parts) (table_bytes parts.quantum runs)) ends values are stands.is (omega arith) covers);
    }

place_is : (parts : TableParts) (index : ℕ) → AreParts parts → index < length parts.funcs
    → record_place (written parts) index ≡ record_start parts index
place_is parts index are inside =
    rw (told parts are).funcs (ap (λ n. start_of parts 4 + n) (place_read parts index are inside))

names_depth : (parts : TableParts) (index : ℕ) (d : FuncPart) → AreParts parts → index < length parts.funcs
    → Names (written parts) (depth_field (written parts) index) (get_or parts.funcs index d).depth
names_depth parts index d are inside =
    rw (place_is parts index are inside)
    (names parts (record_start parts index + 16) (get_or parts.funcs index d).depth are (are.funcs index d inside).depth (depth_kept parts index d inside)
    (field_read parts index d 4 (record_start parts index + 16) (offset_of (kept_of parts) (table_bytes parts.quantum (get_or parts.funcs index d).depth))
    inside (omega arith) refl (offset_short parts (get_or parts.funcs index d).depth are (depth_kept parts index d inside)) refl))

names_file : (parts : TableParts) (index : ℕ) (d : FuncPart) → AreParts parts → index < length parts.funcs
    → Names (written parts) (file_field (written parts) index) (get_or parts.funcs index d).file
names_file parts index d are inside =
    rw (place_is parts index are inside)
    (names parts (record_start parts index + 20) (get_or parts.funcs index d).file are (are.funcs index d inside).file (file_kept parts index d inside)
    (field_read parts index d 5 (record_start parts index + 20) (offset_of (kept_of parts) (table_bytes parts.quantum (get_or parts.funcs index d).file))
    inside (omega arith) refl (offset_short parts (get_or parts.funcs index d).file are (file_kept parts index d inside)) refl))

names_line : (parts : TableParts) (index : ℕ) (d : FuncPart) → AreParts parts → index < length parts.funcs
    → Names (written parts) (line_field (written parts) index) (get_or parts.funcs index d).line
names_line parts index d are inside =
    rw (place_is parts index are inside)
    (names parts (record_start parts index + 24) (get_or parts.funcs index d).line are (are.funcs index d inside).line (line_kept parts index d inside)
    (field_read parts index d 6 (record_start parts index + 24) (offset_of (kept_of parts) (table_bytes parts.quantum (get_or parts.funcs index d).line))
    inside (omega arith) refl (offset_short parts (get_or parts.funcs index d).line are (line_kept parts index d inside)) refl))

-- files

-- a look-up in a list of file numbers finds one of them, or none
value_is : (place count : ℕ) (runs : List Run) → ((index : ℕ) (d : Run) → index < length runs → IsFile count (get_or runs index d))
    → (value_of place runs true ≡ Past) ⊎ ((number : ℕ) × (value_of place runs true ≡ Value (pos number)) × (number < count))
value_is place count [] all = inl refl
value_is place count (run ∷ runs) all =
    elim (cases_lt place run.end) [
      | inl inside ↦
          let file = all 0 run (omega arith) in
          rw (lt-ltb _ _ inside) (inr (file.0, ap Value file.1, file.2))
      | inr past ↦ rw (le-ltb _ _ past) (value_is place count runs (λ index d inside. all (suc index) d (omega arith)))
    ]

file_by : (parts : TableParts) (number : ℕ) → AreParts parts → number < length parts.files
    → file_name (written parts) (number + 0) ≡ Some (to_zero (get_or parts.files number []))
unfolding file_name
file_by parts number are inside =
    let found = told parts are in
    let same : number + 0 ≡ number = omega arith in
    let within : start_of parts 1 + 4 * number + 4 ≤ length (written parts) = unit_within parts number inside in
    let test : nat_le (start_of parts 1 + 4 * number + 4) (length (written parts)) ≡ true = grind (arith, nat_tests) in
    rw (same, found.units, found.files)
    (rw (test, unit_read parts number (start_of parts 1 + 4 * number) are inside refl) (file_read parts number inside))

file_named : (parts : TableParts) (place : ℕ) (runs : List Run) → AreParts parts
    → ((index : ℕ) (d : Run) → index < length runs → IsFile (length parts.files) (get_or runs index d))
    → named_by (written parts) 0 (value_of place runs true) ≡ file_of parts.files (value_of place runs true)
file_named parts place runs are all =
    elim (value_is place (length parts.files) runs all) [
      | inl past ↦ rw past refl
      | inr found ↦ rw found.1 (file_by parts found.0 are found.2)
    ]

-- what is told of a function

name_is : (parts : TableParts) (index : ℕ) (d : FuncPart) → AreParts parts → index < length parts.funcs
    → name_place (written parts) index ≡ start_of parts 0 + name_start parts index
name_is parts index d are inside =
    let fit : length (texts (names_of parts.funcs)) < 2 ^ 32 = (words_fit parts are).names in
    let within : name_start parts index ≤ length (texts (names_of parts.funcs)) = name_start_within parts index in
    rw ((told parts are).names, place_is parts index are inside)
    (ap (λ n. start_of parts 0 + n)
    (field_read parts index d 1 (record_start parts index + 4) (name_start parts index) inside (omega arith) refl (omega arith) refl))

name_told : (parts : TableParts) (index : ℕ) (d : FuncPart) → AreParts parts → index < length parts.funcs
    → name_of (written parts) index ≡ Some (to_zero (get_or parts.funcs index d).name)
name_told parts index d are inside =
    rw (name_is parts index d are inside)
    (text_read (written parts) (start_of parts 0 + name_start parts index) (get_or parts.funcs index d).name (name_read parts index d inside))

entry_told : (parts : TableParts) (index : ℕ) (d : FuncPart) → AreParts parts → index < length parts.funcs
    → entry_of (written parts) index ≡ parts.text_start + (get_or parts.funcs index d).entry
entry_told parts index d are inside =
    rw ((told parts are).text, (told parts are).funcs) (ap (λ n. parts.text_start + n) (entry_read parts index d are inside))

args_told : (parts : TableParts) (index : ℕ) (d : FuncPart) → AreParts parts → index < length parts.funcs
    → args_of (written parts) index ≡ (get_or parts.funcs index d).args
args_told parts index d are inside =
    let fits : FitsSigned w32 (get_or parts.funcs index d).args = (are.funcs index d inside).args in
    let short = Fits-of_z {w = w32} fits in
    rw (
      place_is parts index are inside,
      field_read parts index d 2 (record_start parts index + 8) (cast_unsigned w32 (get_or parts.funcs index d).args) inside (omega arith) refl (omega arith) refl,
    )
    (to_z-of_z {w = w32} fits)

flags_told : (parts : TableParts) (index : ℕ) (d : FuncPart) → AreParts parts → index < length parts.funcs
    → flags_of (written parts) index ≡ (get_or parts.funcs index d).flags
flags_told parts index d are inside =
    rw ((told parts are).line, place_is parts index are inside)
    (flags_read parts index d (record_start parts index + 37 + 4) inside (omega arith))

unit_told : (parts : TableParts) (index : ℕ) (d : FuncPart) → AreParts parts → index < length parts.funcs
    → u32_at (written parts) (unit_field (written parts) index) ≡ 0
unit_told parts index d are inside =
    rw (place_is parts index are inside)
    (field_read parts index d 8 (record_start parts index + 32) 0 inside (omega arith) refl (omega arith) refl)

pc_told : (parts : TableParts) (index : ℕ) (d : FuncPart) (pc : ℕ) → AreParts parts → index < length parts.funcs
    → TellsPc parts (written parts) index (get_or parts.funcs index d) pc
unfolding answer_at
pc_told parts index d pc are inside =
    let depth = names_depth parts index d are inside in
    let line = names_line parts index d are inside in
    let file = names_file parts index d are inside in
    let unit : u32_at (written parts) (unit_field (written parts) index) ≡ 0 = unit_told parts index d are inside in
    record {
      depth = depth.value (pc - entry_of (written parts) index);
      line = line.value (pc - entry_of (written parts) index);
      file = rw (unit, file.value (pc - entry_of (written parts) index))
          (file_named parts (pc - entry_of (written parts) index) (get_or parts.funcs index d).file are (are.funcs index d inside).indices);
    }

pub tells : (parts : TableParts) → AreParts parts → Tells parts (written parts)
tells parts are =
    record {
      count = (told parts are).count;
      start = (told parts are).text;
      funcs = λ index d inside. record {
        entry = entry_told parts index d are inside;
        name = name_told parts index d are inside;
        args = args_told parts index d are inside;
        flags = flags_told parts index d are inside;
        pc = λ pc. pc_told parts index d pc are inside;
      };
      last = rw ((told parts are).text, (told parts are).funcs) (ap (λ n. parts.text_start + n) (end_read parts are));
    }

abbrev no_part : FuncPart
no_part = record { name = []; entry = 0; args = pos 0; flags = 0; start_line = pos 0; depth = []; file = []; line = [] }

pub tells_all : (parts : TableParts) → AreParts parts → TellsAll parts (written parts)
tells_all parts are =
    record {
      unit = (told parts are).unit;
      entries = λ index d inside. rw (told parts are).funcs (entry_read parts index d are inside);
      last = rw (told parts are).funcs (end_read parts are);
      stretches = λ index d inside. record {
        depths = (names_depth parts index d are inside).over;
        lines = (names_line parts index d are inside).over;
        files = (names_file parts index d are inside).over;
      };
      files = λ index number inside there. rw (unit_told parts index no_part are inside) (file_by parts number are there);
    }

-- and it is a table

header_is : (parts : TableParts) → AreParts parts → IsHeader (written parts)
header_is parts are =
    let found = told parts are in
    let long : 0 + length (header_over parts (tables parts)) ≤ length (written parts)
    = stands_within (written parts) (header_over parts (tables parts)) 0 (header_stands parts) (omega (arith, length-header parts (tables parts) refl)) in
    record {
      magic = inl (magic_read parts);
      length = omega (arith, length-header parts (tables parts) refl);
      zeros = (stands_byte (written parts) (0 ∷ 0 ∷ parts.quantum ∷ 8 ∷ []) 4 0 (ident_stands parts), stands_byte (written parts) (0 ∷ 0 ∷ parts.quantum ∷ 8 ∷ []) 4 1 (ident_stands parts));
      quantum = rw found.unit are.quantum;
      pointers = found.pointer;
      text = rw found.text are.text_start;
    }

tables_are : (parts : TableParts) → AreParts parts → HasTables (written parts)
tables_are parts are =
    let found = told parts are in
    let within : start_of parts 4 + length (get_or (tables parts) 4 []) ≤ length (written parts) = part_within parts 4 (omega arith) in
    record {
      names = rw found.names (start_within parts 0 (omega arith));
      units = rw found.units (start_within parts 1 (omega arith));
      files = rw found.files (start_within parts 2 (omega arith));
      pcs = rw found.pcs (start_within parts 3 (omega arith));
      funcs = rw found.funcs (start_within parts 4 (omega arith));
      pairs = rw (found.funcs, found.count) (omega (arith, length-funcs_bytes parts));
    }

order_is : (parts : TableParts) → AreParts parts → HasOrder (written parts)
order_is parts are index inside =
    let found = told parts are in
    let here : index < length parts.funcs = omega (arith, found.count) in
    let next : index + 1 < length parts.funcs = omega (arith, found.count) in
    rw found.funcs
    (rw (entry_read parts index no_part are here, entry_read parts (index + 1) no_part are next) (are.order index no_part next))

func_is : (parts : TableParts) (index : ℕ) → AreParts parts → index < length parts.funcs → IsFunc (written parts) index
func_is parts index are inside =
    let found = told parts are in
    let within : record_start parts index + 44 ≤ length (written parts) = record_within parts index inside in
    let no_tables : u32_at (written parts) (record_start parts index + 28) ≡ 0
    = field_read parts index no_part 7 (record_start parts index + 28) 0 inside (omega arith) refl (omega arith) refl in
    let no_data : slice_index (written parts) (record_start parts index + 39 + 4) ≡ 0
    = data_read parts index no_part (record_start parts index + 39 + 4) inside (omega arith) in
    let names_end : start_of parts 0 + length (texts (names_of parts.funcs)) ≤ length (written parts) = part_within parts 0 (omega arith) in
    let begins : name_start parts index ≤ length (texts (names_of parts.funcs)) = name_start_within parts index in
    record {
      fits = record {
        fits = rw (found.line, place_is parts index are inside) (omega arith);
        words = rw (found.line, place_is parts index are inside, no_tables, no_data) (omega arith);
      };
      name = record {
        within = rw (name_is parts index no_part are inside) (omega arith);
        ended = rw (name_told parts index no_part are inside) refl;
      };
      depth = (names_depth parts index no_part are inside).is;
      file = (names_file parts index no_part are inside).is;
      line = (names_line parts index no_part are inside).is;
    }

pub table_told : (parts : TableParts) → AreParts parts → IsTable (written parts)
table_told parts are =
    record {
      header = header_is parts are;
      tables = tables_are parts are;
      order = order_is parts are;
      funcs = λ index inside. func_is parts index are (omega (arith, (told parts are).count));
    }

-- The definitions on the worked table, each computed.
use Rattle.std.proofs.Common.{◌≡◌, ℕ, List, ◌∷◌, ◌++◌, take, drop, pos, refl}
use Rattle.std.specs.Prelude.{Some, None, codes}
use Rattle.pcvalue.specs.declared.answer.Answer.TheVariants.{Value}
use Rattle.pcvalue.specs.Varint.{varint, varint_within}
use Rattle.pcvalue.specs.Runs.{runs_of, runs_within, next_run, run_by, run_over}
use Rattle.pcvalue.specs.Table.{value_in, is_pc_table}
use Rattle.pclntab.specs.declared.fault.TableNo.TheVariants.{TB2, TB4, TB5}
use Rattle.pclntab.specs.Words.{u32_at, u64_at}
use Rattle.pclntab.specs.Places.{line_size}
use Rattle.pclntab.specs.Texts.{text_in}
use Rattle.pclntab.specs.Faults.{header_fault, tables_fault, entry_fault, order_fault, record_fault, name_fault, pc_fault, func_fault, table_fault}
use Rattle.goasm_base.specs.Refusals.{first_below}
use Rattle.pclntab.specs.Func.{func_at, name_of, flags_of, answer_at, depth_at, line_at, file_at, file_name}
use Rattle.pclntab.specs.Worked.{worked_table}

no_fault : table_fault worked_table ≡ None
unfolding table_fault header_fault tables_fault order_fault entry_fault func_fault record_fault name_fault pc_fault first_below is_pc_table runs_of runs_within next_run run_by run_over varint varint_within line_size u32_at u64_at text_in
no_fault = refl

cut_short : table_fault (take 71 worked_table) ≡ Some (TB2 71)
unfolding table_fault header_fault tables_fault order_fault entry_fault func_fault record_fault name_fault pc_fault first_below is_pc_table runs_of runs_within next_run run_by run_over varint varint_within line_size u32_at u64_at text_in
cut_short = refl

-- the field of the line table names no table
no_line_table : table_fault (take 164 worked_table ++ 0x4F ∷ drop 165 worked_table) ≡ Some (TB5 164)
unfolding table_fault header_fault tables_fault order_fault entry_fault func_fault record_fault name_fault pc_fault first_below is_pc_table runs_of runs_within next_run run_by run_over varint varint_within line_size u32_at u64_at text_in
no_line_table = refl

in_range : func_at worked_table 0x400011 ≡ Some 0
unfolding func_at first_below u32_at u64_at
in_range = refl

behind_range : func_at worked_table 0x400020 ≡ None
unfolding func_at first_below u32_at u64_at
behind_range = refl

name : name_of worked_table 0 ≡ Some (codes "main.Cas")
unfolding text_in u32_at u64_at
name = refl

file : file_at worked_table 0 0x400011 ≡ Some (codes "cas.s")
unfolding file_name answer_at value_in runs_of runs_within next_run run_by run_over varint varint_within u32_at u64_at text_in
file = refl

line : line_at worked_table 0 0x400011 ≡ Value (pos 8)
unfolding answer_at value_in runs_of runs_within next_run run_by run_over varint varint_within u32_at u64_at
line = refl

depth : depth_at worked_table 0 0x400011 ≡ Value (pos 0)
unfolding answer_at value_in runs_of runs_within next_run run_by run_over varint varint_within u32_at u64_at
depth = refl

-- the same function in the Go 1.18 form, whose record has no line of the declaration
abbrev old_table : List ℕ
old_table = 240 ∷ take 175 (drop 1 worked_table) ++ drop 180 worked_table

old_no_fault : table_fault old_table ≡ None
unfolding table_fault header_fault tables_fault order_fault entry_fault func_fault record_fault name_fault pc_fault first_below is_pc_table runs_of runs_within next_run run_by run_over varint varint_within line_size u32_at u64_at text_in
old_no_fault = refl

old_flags : flags_of old_table 0 ≡ 4
unfolding line_size u32_at u64_at
old_flags = refl

old_file : file_at old_table 0 0x400011 ≡ Some (codes "cas.s")
unfolding file_name answer_at value_in runs_of runs_within next_run run_by run_over varint varint_within u32_at u64_at text_in
old_file = refl

-- a record of 40 bytes has no room for four bytes less
old_cut : table_fault (take 179 old_table) ≡ Some (TB4 132)
unfolding table_fault header_fault tables_fault order_fault entry_fault func_fault record_fault name_fault pc_fault first_below is_pc_table runs_of runs_within next_run run_by run_over varint varint_within line_size u32_at u64_at text_in
old_cut = refl

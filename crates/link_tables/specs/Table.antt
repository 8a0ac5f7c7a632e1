-- The parts of a function table, from the placed lines of functions.
use Rattle.std.specs.Prelude.{◌<◌, ◌≤◌, ◌+◌, ◌-◌, ◌^◌, ◌==◌, ℕ, ℤ, pos, negsuc, List, map, All, length, bit_and, slice_index, IfSome, Option, Some, None, if◌then◌else◌}
use Rattle.std.specs.List.{flat_map}
use Rattle.asm_target.specs.declared.body.Line.{Line}
use Rattle.pclntab.specs.declared.parts.TableParts.{TableParts}
use Rattle.pclntab.specs.declared.parts.FuncPart.{FuncPart}
use Rattle.pclntab.specs.Parts.{EntriesRise, IsFuncPart}
use Rattle.link_tables.specs.declared.func_lines.FuncLines.{FuncLines}
use Rattle.link_tables.specs.Files.{file_name}
use Rattle.link_tables.specs.Rows.{AreUsed, IsPlaced, rows_of, depth_stretch, file_stretch, line_stretch}
use Rattle.link_tables.specs.Stretches.{AreStretches, IsQuantum, merged}
use Rattle.link_tables.specs.UsedNames.{first_used}

-- the size of arguments and results, or -2^31 where it isn't written
abbrev pub args_field : Option ℕ → ℤ
args_field None = negsuc (2 ^ 31 - 1)
args_field (Some size) = pos size

-- written in assembly, 4; and with TOPFRAME, 2048 in Go's textflag.h, a stack ends in it, 1
abbrev pub flags_field : ℕ → ℕ
flags_field flags = if bit_and flags 2048 == 0 then 4 else 5

-- the names of the files of lines, of a function's lines, and of all functions'
abbrev pub names_of_lines : {Instr : Type 0} → List (List ℕ) → List (Line Instr) → List (List ℕ)
names_of_lines build lines = map (λ line. file_name build line.pos.file) lines

abbrev pub names_in : {Instr : Type 0} → List (List ℕ) → FuncLines Instr → List (List ℕ)
names_in build func = names_of_lines build func.lines.now

-- the files of lines are among so many
abbrev pub HaveFiles : {Instr : Type 0} → ℕ → List (Line Instr) → Type 0
HaveFiles files lines = All (λ line. line.pos.file < files) lines

abbrev pub files_of : {Instr : Type 0} → List (List ℕ) → List (FuncLines Instr) → List (List ℕ)
files_of build funcs = first_used (flat_map (names_in build) funcs)

-- a function's part of a table with these files
abbrev pub part_of : {Instr : Type 0} → List (List ℕ) → List (List ℕ) → FuncLines Instr → FuncPart
part_of build used func = record {
  name = func.name.now;
  entry = func.entry;
  args = args_field func.args;
  flags = flags_field func.flags;
  start_line = pos func.start_line;
  depth = merged (map depth_stretch (rows_of func));
  file = merged (map (file_stretch build used) (rows_of func));
  line = merged (map line_stretch (rows_of func));
}

-- the text of an image stands at this address
abbrev pub text_start : ℕ
text_start = 0x40_0000

abbrev pub parts_of : {Instr : Type 0} → List (List ℕ) → ℕ → ℕ → List (FuncLines Instr) → TableParts
parts_of build quantum text_len funcs = record {
  quantum = quantum;
  text_start = text_start;
  text_len = text_len;
  files = files_of build funcs;
  funcs = map (part_of build (files_of build funcs)) funcs;
}

-- what a linker knows of a function: its lines are placed, and its numbers fit the fields of a table
pub record IsLinked {Instr : Type 0} (quantum files : ℕ) (func : FuncLines Instr) : Type 0 where
  pub placed : IsPlaced quantum files func
  pub entry : func.entry < 2 ^ 32
  pub args : IfSome func.args (λ size. size < 2 ^ 31)
  pub start_line : func.start_line < 2 ^ 31

-- a function can be told by a table with these files
pub record CanTell {Instr : Type 0} (build used : List (List ℕ)) (func : FuncLines Instr) : Type 0 where
  pub depth : AreStretches (map depth_stretch (rows_of func))
  pub file : AreStretches (map (file_stretch build used) (rows_of func))
  pub line : AreStretches (map line_stretch (rows_of func))
  pub files : All (λ row. row.file < length build) (rows_of func)
  pub there : AreUsed build used (rows_of func)
  pub args : IfSome func.args (λ size. size < 2 ^ 31)
  pub start_line : func.start_line < 2 ^ 31

-- the functions stand by their entries
abbrev pub EntriesAscend : {Instr : Type 0} → List (FuncLines Instr) → Type 0
EntriesAscend funcs =
    let entries = map (λ func. func.entry) funcs in
    (index : ℕ) → index + 1 < length entries → slice_index entries index ≤ slice_index entries (index + 1)

-- Parts from which a table can be written, if it has fewer than 2^32 bytes.
pub record AreReady (parts : TableParts) : Type 0 where
  pub quantum : IsQuantum parts.quantum
  pub text_start : parts.text_start ≤ 2 ^ 64 - 2 ^ 32
  pub text_len : parts.text_len < 2 ^ 32
  pub order : EntriesRise parts.funcs
  pub funcs : All (IsFuncPart parts.quantum (length parts.files)) parts.funcs

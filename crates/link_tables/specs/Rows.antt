-- The placed lines of a function.
use Rattle.std.specs.Prelude.{◌≡◌, ◌<◌, ◌≤◌, ◌-◌, ◌^◌, ◌%◌, ℕ, List, [], ◌∷◌, All, length, drop, IfSome}
use Rattle.std.specs.List.{slice_get}
use Rattle.asm_target.specs.declared.body.Line.{Line}
use Rattle.link_tables.specs.declared.func_lines.FuncLines.{FuncLines}
use Rattle.link_tables.specs.declared.row.Row.{Row}
use Rattle.link_tables.specs.declared.stretch.Stretch.{Stretch}
use Rattle.link_tables.specs.Files.{file_name}
use Rattle.link_tables.specs.UsedNames.{place_of}

-- where a line ends: at the place of the next one, and the last with the function
abbrev pub end_before : List ℕ → ℕ → ℕ
end_before [] length = length
end_before (place ∷ places) length = place

abbrev pub row_of : {Instr : Type 0} → Line Instr → ℕ → Row
row_of line end = record { end = end; depth = line.depth; file = line.pos.file; line = line.pos.line }

-- all instructions of a line have its depth, its file and its line
unfoldable pub rows_from : {Instr : Type 0} → List (Line Instr) → List ℕ → ℕ → List Row
rows_from [] places length = []
rows_from (line ∷ lines) places length =
    row_of line (end_before (drop 1 places) length) ∷ rows_from lines (drop 1 places) length

abbrev pub rows_of : {Instr : Type 0} → FuncLines Instr → List Row
rows_of func = rows_from func.lines.now func.places.now func.length

-- what the three tables tell of a line's bytes; the file is told by its name's index among those that are used
abbrev pub depth_stretch : Row → Stretch
depth_stretch row = record { end = row.end; value = row.depth }

abbrev pub file_stretch : List (List ℕ) → List (List ℕ) → Row → Stretch
file_stretch build used row = record { end = row.end; value = place_of used (file_name build row.file) }

abbrev pub line_stretch : Row → Stretch
line_stretch row = record { end = row.end; value = row.line }

-- each line has at least one byte
abbrev pub HaveBytes : List ℕ → ℕ → Type 0
HaveBytes [] length = Unit {0}
HaveBytes (place ∷ places) length = (place < end_before places length) × HaveBytes places length

-- a line's file is one of so many, and its numbers fit the fields of a table
pub record IsTellable {Instr : Type 0} (files : ℕ) (line : Line Instr) : Type 0 where
  pub in_files : line.pos.file < files
  pub small_depth : line.depth < 2 ^ 31
  pub small_line : line.pos.line ≤ 2 ^ 31 - 2

-- The lines of a function are placed one behind the other, at whole quanta. The depth of the first one is told as a change from -1,
-- which has to fit too
pub record IsPlaced {Instr : Type 0} (quantum files : ℕ) (func : FuncLines Instr) : Type 0 where
  pub some : 0 < length func.lines.now
  pub count : length func.places.now ≡ length func.lines.now
  pub bytes : HaveBytes func.places.now func.length
  pub short : func.length < 2 ^ 32
  pub whole : All (λ place. place % quantum ≡ 0) func.places.now
  pub end : func.length % quantum ≡ 0
  pub lines : All (IsTellable files) func.lines.now
  pub first : IfSome (slice_get func.lines.now 0) (λ line. line.depth ≤ 2 ^ 31 - 2)

-- the names of the rows' files are used
abbrev pub AreUsed : List (List ℕ) → List (List ℕ) → List Row → Type 0
AreUsed build used rows = All (λ row. place_of used (file_name build row.file) < length used) rows

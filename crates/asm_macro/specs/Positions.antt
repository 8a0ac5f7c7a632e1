-- Positions, as `#line` moves them. A line number stops at 2 ^ 31 - 2.
use Rattle.std.specs.Prelude.{ℕ, ◌+◌, ◌-◌, min, Option, Some, None}
use Rattle.goasm_base.specs.declared.pos.Pos.{Pos}
use Rattle.goasm_base.specs.Lines.{last_line}
use Rattle.asm_macro.specs.declared.mapping.Mapping.{Mapping}

-- the line behind the directive has its number, and those behind it count on
unfoldable pub mapped_pos : Option Mapping → Pos → Pos
mapped_pos None pos = pos
mapped_pos (Some mapping) pos =
    record { file = mapping.file; line = min (mapping.number + (pos.line - mapping.line - 1)) last_line }

-- the mapping that a directive makes which ends on this line
unfoldable pub mapping_from : ℕ → ℕ → ℕ → Mapping
mapping_from file number line = record { file = file; number = min number last_line; line = line }

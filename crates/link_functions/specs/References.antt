-- The names of what the code of a build refers to and which stand for nothing.
use Rattle.std.specs.Prelude.{ℕ, List, [], ◌++◌, Option, Some, None}
use Rattle.asm_target.specs.declared.body.Line.{Line}
use Rattle.asm_target.specs.declared.refer.Refer.{Refer}
use Rattle.asm_target.specs.declared.refer.To.{To}
use Rattle.asm_target.specs.declared.refer.To.TheVariants as to
use Rattle.asm_parse.specs.declared.unit.Symbol.{Symbol}
use Rattle.link_names.specs.Definitions.{Entry, each, key_at}
use Rattle.link_names.specs.Data.{undefined, unit_undefined}
use Rattle.unit_listing.specs.Lines.{growth_name}
use Rattle.link_functions.specs.declared.code.Part.{Part}
use Rattle.link_functions.specs.declared.code.UnitCode.{UnitCode}

module _ (names : List Entry) where
  -- The name of what is referred to, where it stands for nothing. The routine that grows the stack is seen by every unit
  abbrev pub goal_undefined : ℕ → List Symbol → ℕ → To → List (List ℕ)
  goal_undefined unit symbols flags (to.Symbol sym off) = undefined names (key_at unit symbols sym)
  goal_undefined unit symbols flags to.Grow = undefined names (growth_name flags, None)
  goal_undefined unit symbols flags _ = []

  abbrev pub refer_undefined : ℕ → List Symbol → ℕ → Option Refer → List (List ℕ)
  refer_undefined unit symbols flags None = []
  refer_undefined unit symbols flags (Some refer) = goal_undefined unit symbols flags refer.to

  module _ {Instr : Type 0} where
    abbrev pub line_undefined : ℕ → List Symbol → ℕ → ℕ → Line Instr → List (List ℕ)
    line_undefined unit symbols flags number line = refer_undefined unit symbols flags line.refer

    -- the names to which a function of a unit refers, by lines
    abbrev pub lines_undefined : ℕ → List Symbol → ℕ → List (Line Instr) → List (List ℕ)
    lines_undefined unit symbols flags lines = each (line_undefined unit symbols flags) lines

    abbrev pub part_undefined : ℕ → List Symbol → ℕ → Part Instr → List (List ℕ)
    part_undefined unit symbols number part = lines_undefined unit symbols part.laid.flags part.laid.body.code

    -- the names to which functions of a unit refer, by functions
    abbrev pub parts_undefined : ℕ → List Symbol → List (Part Instr) → List (List ℕ)
    parts_undefined unit symbols parts = each (part_undefined unit symbols) parts

    -- the names to which a unit refers: its functions, and then its data
    abbrev pub code_undefined : ℕ → UnitCode Instr → List (List ℕ)
    code_undefined number code =
        parts_undefined number code.unit.now.symbols code.parts.items ++ unit_undefined names number code.unit.now

    -- the names to which the units of a build refer and which stand for nothing, by units
    abbrev pub all_undefined : List (UnitCode Instr) → List (List ℕ)
    all_undefined code = each code_undefined code

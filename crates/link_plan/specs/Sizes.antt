-- The sizes of the functions of a build.
use Rattle.std.specs.Prelude.{ℕ, List, map}
use Rattle.link_names.specs.Definitions.{each}
use Rattle.link_functions.specs.declared.code.Part.{Part}
use Rattle.link_functions.specs.declared.code.UnitCode.{UnitCode}

module _ {Instr : Type 0} where
  -- how many bytes a function has
  abbrev pub part_size : Part Instr → ℕ
  part_size part = part.laid.sizes.length

  abbrev pub part_sizes : List (Part Instr) → List ℕ
  part_sizes parts = map part_size parts

  abbrev pub unit_sizes : ℕ → UnitCode Instr → List ℕ
  unit_sizes number unit = part_sizes unit.parts.items

  -- by units
  abbrev pub code_sizes : List (UnitCode Instr) → List ℕ
  code_sizes code = each unit_sizes code

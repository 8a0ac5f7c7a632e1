-- The functions that the image of a build has.
use Rattle.std.specs.Prelude.{◌≡◌, ℕ, List, map, length, Some, None}
use Rattle.std.specs.List.{slice_get}
use Rattle.goasm_base.specs.Statements.{IsValidFunction}
use Rattle.asm_parse.specs.Placed.{FunctionIn}
use Rattle.asm_parse.specs.Valid.{IsValidUnit}
use Rattle.asm_parse.specs.declared.unit.Unit.{Unit as Said}
use Rattle.link_names.specs.Definitions.{Entry, each, meaning_in}
use Rattle.link_names.specs.declared.definition.Meaning.TheVariants as means
use Rattle.link_functions.specs.Code.{AreWithin}
use Rattle.link_functions.specs.declared.code.Part.{Part}
use Rattle.link_functions.specs.declared.code.UnitCode.{UnitCode}
use Rattle.unit_listing.specs.Kit.{Kit}
use Rattle.unit_listing.specs.Laid.{IsLaid}
use Rattle.link_build.specs.declared.build.Build.{Build}
use Rattle.link_build.specs.declared.func.Func.{Func}

-- a function, seen without where its unit and its instructions lie in memory
pub record Seen (Instr : Type 0) : Type 0 where
  pub number : ℕ
  pub unit : Said
  pub part : Part Instr

module _ {Instr : Type 0} where
  abbrev pub seen : Func Instr → Seen Instr
  seen func = record { number = func.number; unit = func.unit.now; part = func.part.now }

  abbrev pub seen_in : ℕ → Said → Part Instr → Seen Instr
  seen_in number unit part = record { number = number; unit = unit; part = part }

  -- the functions of the unit of this number
  abbrev pub functions_of : ℕ → UnitCode Instr → List (Seen Instr)
  functions_of number code = map (seen_in number code.unit.now) code.parts.items

  -- the functions of all units, in their order
  abbrev pub functions_in : List (UnitCode Instr) → List (Seen Instr)
  functions_in code = each functions_of code

  -- the name stands for the function of this number, among these
  pub record IsEntryAt (names : List Entry) (entry : List ℕ) (funcs : List (Seen Instr)) (index : ℕ) : Type 0 where
    pub func : Seen Instr
    pub here : slice_get funcs index ≡ Some func
    pub means : meaning_in names (entry, None) ≡ Some (means.Function func.number func.part.number)

  -- The function is one of a unit of the build, and its instructions are those of it
  pub record IsSound (kit : Kit Instr) (build : Build) (func : Seen Instr) : Type 0 where
    pub unit : slice_get build.units func.number ≡ Some func.unit
    pub valid : IsValidUnit func.unit
    pub function : slice_get func.unit.functions func.part.number ≡ Some func.part.function.now
    pub form : IsValidFunction (length func.unit.symbols) func.part.function.now
    pub placed : FunctionIn (length build.files) func.part.function.now
    pub laid : IsLaid kit func.part.function.now func.part.laid
    pub within : AreWithin (length func.unit.symbols) func.part.laid

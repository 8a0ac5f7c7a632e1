-- What holds of a build that is linked, up to the instructions of its functions.
use Rattle.std.specs.Prelude.{◌≡◌, ℕ, ◌<◌, ◌^◌, true, List, [], All, None, length}
use Rattle.asm_parse.specs.Placed.{UnitIn}
use Rattle.asm_parse.specs.Valid.{IsValidUnit}
use Rattle.asm_grammar.specs.Names.{HasNoZero}
use Rattle.link_names.specs.Data.{is_function, misplaced}
use Rattle.link_names.specs.Definitions.{AreAllowed, Entry, MeansAs, entries_of, meaning_in}
use Rattle.link_functions.specs.declared.code.UnitCode.{UnitCode}
use Rattle.link_functions.specs.Code.{AreLaid, IsUnitWithin, IsValidCode}
use Rattle.link_functions.specs.References.{all_undefined}
use Rattle.unit_listing.specs.Kit.{Kit}
use Rattle.link_build.specs.declared.build.Build.{Build}

-- an outside name has no zero byte, and its address lies before those of an image
pub record IsOutside (outside : List ℕ × ℕ) : Type 0 where
  pub name : HasNoZero outside.0
  pub low : outside.1 < 0x400000

-- a build as it comes from sources and a list: each place is in one of its files
pub record IsValidBuild (build : Build) : Type 0 where
  pub units : All IsValidUnit build.units
  pub placed : All (UnitIn (length build.files)) build.units
  pub files : length build.files < 2 ^ 32
  pub outside : All IsOutside build.outside

-- its definitions, in their order
abbrev pub entries_in : Build → List Entry
entries_in build = entries_of build.units build.outside

-- no symbol is defined twice, and the names tell what each stands for
pub record IsNamed (build : Build) (names : List Entry) : Type 0 where
  pub allowed : AreAllowed (entries_in build)
  pub means : MeansAs names (entries_in build)

-- beside that each `DATA` has room
pub record HasRoom (build : Build) (names : List Entry) : Type 0 where
  pub named : IsNamed build names
  pub room : misplaced build.units names ≡ []

module _ {Instr : Type 0} (kit : Kit Instr) (build : Build) (names : List Entry) (code : List (UnitCode Instr)) where
  -- beside that the functions that count have these instructions
  pub record IsLaidOut : Type 0 where
    pub room : HasRoom build names
    pub laid : AreLaid kit names build.units code
    pub valid : All IsValidCode code
    pub within : All IsUnitWithin code

  -- beside that each symbol stands for something to which the code or the data refers, and the entry for a function
  pub record IsResolved : Type 0 where
    pub laid : IsLaidOut
    pub defined : all_undefined names code ≡ []
    pub entry : is_function (meaning_in names (build.entry, None)) ≡ true

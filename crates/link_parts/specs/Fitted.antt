-- What is known of the parts of a build's image once they are made, and when its image is too long.
use Rattle.std.specs.Prelude.{◌≡◌, ℕ, ◌<◌, ◌≤◌, ◌^◌, List, All, length}
use Rattle.elf_image.specs.Layout.{image_length}
use Rattle.link_build.specs.declared.build.Build.{Build}
use Rattle.link_build.specs.Functions.{functions_in}
use Rattle.link_functions.specs.declared.code.UnitCode.{UnitCode}
use Rattle.link_lines.specs.Told.{AreToldBy}
use Rattle.link_names.specs.Definitions.{Entry}
use Rattle.link_places.specs.Addresses.{TellsAs}
use Rattle.link_plan.specs.declared.planning.Plan.{Plan}
use Rattle.link_plan.specs.Addresses.{build_addresses}
use Rattle.link_plan.specs.Plan.{IsPlaced}
use Rattle.link_plan.specs.Sizes.{code_sizes}
use Rattle.link_tables.specs.declared.func_lines.FuncLines.{FuncLines}
use Rattle.link_tables.specs.Table.{IsLinked}
use Rattle.link_values.specs.Kept.{kept_values, sizes_of}
use Rattle.pclntab.specs.declared.parts.TableParts.{TableParts}
use Rattle.pclntab.specs.Parts.{Tells, TellsAll}
use Rattle.pclntab.specs.Table.{IsTable}
use Rattle.pclntab.specs.Written.{written}
use Rattle.link_parts.specs.declared.fitting.Fitted.{Fitted}
use Rattle.link_parts.specs.Image.{function_places, image_functions, image_sizes, image_symbols, table_parts, values_address}
use Rattle.link_parts.specs.Symbols.{AreSymbols}

-- the bytes are the table of these parts, and tell them
pub record IsTableOf (parts : TableParts) (table : List ℕ) : Type 0 where
  pub bytes : table ≡ written parts
  pub form : IsTable table
  pub told : Tells parts table
  pub all_told : TellsAll parts table

module _ {Instr : Type 0} (build : Build) (names : List Entry) (code : List (UnitCode Instr)) where
  -- where the functions and the data stand
  pub record IsPlanned (plan : Plan) : Type 0 where
    pub functions : IsPlaced (code_sizes code) plan.functions
    pub few : length plan.functions.at ≤ 65536
    pub kept : plan.kept.items ≡ kept_values names build.units
    pub values : IsPlaced (sizes_of plan.kept.items) plan.values

module _ {Instr : Type 0} (quantum : ℕ) (build : Build) (code : List (UnitCode Instr)) where
  -- these are the lines of the functions
  pub record AreLines (lines : List (FuncLines Instr)) : Type 0 where
    pub told : AreToldBy (functions_in code) (function_places code) lines
    pub linked : All (IsLinked quantum (length build.files)) lines

module _ {Instr : Type 0} (quantum : ℕ) (build : Build) (names : List Entry) (code : List (UnitCode Instr)) where
  -- The parts are those of an image that has at most 2^26 bytes
  pub record IsFitted (fitted : Fitted) : Type 0 where
    pub plan : IsPlanned build names code fitted.plan
    pub lines : List (FuncLines Instr)
    pub lines_are : AreLines quantum build code lines
    pub table : IsTableOf (table_parts quantum build names code lines) fitted.table
    pub values_at : fitted.values_at ≡ values_address quantum build names code lines
    pub listed : fitted.symbols ≡ image_symbols quantum build names code lines
    pub symbols : AreSymbols (image_functions quantum build names code lines) build.outside fitted.symbols
    pub addresses : TellsAs fitted.addresses (build_addresses code fitted.plan build.outside fitted.values_at)
    pub short : image_length (image_sizes quantum build names code lines) ≤ 2 ^ 26

  -- the image would have more than 2^26 bytes
  pub record IsTooLong : Type 0 where
    pub lines : List (FuncLines Instr)
    pub lines_are : AreLines quantum build code lines
    pub long : 2 ^ 26 < image_length (image_sizes quantum build names code lines)

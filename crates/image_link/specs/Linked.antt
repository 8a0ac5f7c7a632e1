-- The image of a build.
use Rattle.std.specs.Prelude.{◌≡◌, ℕ, ◌+◌, List, All, Option, slice_index}
use Rattle.elf_image.specs.declared.parts.ImageParts.{ImageParts}
use Rattle.elf_image.specs.Contents.{Tells}
use Rattle.elf_image.specs.Image.{IsImage}
use Rattle.elf_image.specs.Written.{image_bytes}
use Rattle.link_build.specs.declared.build.Build.{Build}
use Rattle.link_build.specs.Functions.{IsEntryAt, functions_in}
use Rattle.link_build.specs.Resolved.{IsResolved}
use Rattle.link_code.specs.declared.placing.Code.{Code}
use Rattle.link_flow.specs.declared.around.Around.{Around}
use Rattle.link_flow.specs.Around.{IsAround}
use Rattle.link_flow.specs.Codes.{AreCodes}
use Rattle.link_flow.specs.Refusals.{KeepsGoals, KeepsRules}
use Rattle.link_functions.specs.declared.code.UnitCode.{UnitCode}
use Rattle.link_names.specs.Definitions.{Entry}
use Rattle.link_parts.specs.declared.fitting.Fitted.{Fitted}
use Rattle.link_parts.specs.Fitted.{IsFitted}
use Rattle.link_parts.specs.Image.{function_places}
use Rattle.link_plan.specs.Addresses.{text_address}
use Rattle.link_plan.specs.Plan.{text_size}
use Rattle.link_text.specs.Text.{image_text}
use Rattle.link_values.specs.Values.{value_bytes}
use Rattle.unit_listing.specs.Kit.{Kit}

module _ {Instr : Type 0} (kit : Kit Instr) (build : Build) where
  -- A build up to what its image has beside its code and the bytes of its data: nothing is wrong with its names, its data, its
  -- references and its entry, each of its functions has instructions, and no limit is passed
  pub record IsFit (names : List Entry) (code : List (UnitCode Instr)) (fitted : Fitted) : Type 0 where
    pub resolved : IsResolved kit build names code
    pub fits : IsFitted kit.quantum build names code fitted

  -- beside that each function has these instructions at its address, and this surrounds them
  pub record IsPlaced (names : List Entry) (code : List (UnitCode Instr)) (fitted : Fitted) (codes : List (Code Instr)) (around : Around)
      : Type 0 where
    pub fit : IsFit names code fitted
    pub codes_are : AreCodes names fitted.addresses kit (functions_in code) (function_places code) codes
    pub around_is : IsAround (function_places code) (text_size code) build.outside around

  -- beside that no function goes to an unknown address, and each keeps the flow rules
  pub record IsKept (names : List Entry) (code : List (UnitCode Instr)) (fitted : Fitted) (codes : List (Code Instr)) (around : Around)
      : Type 0 where
    pub placed : IsPlaced names code fitted codes around
    pub goals : All (KeepsGoals kit around) codes
    pub flow : All (KeepsRules kit around) codes

  module _ (growth : Option ℕ) where
    -- what the image of the build is written of, whose program begins at the function of this number
    abbrev pub parts_of : List Entry → List (UnitCode Instr) → Fitted → List (Code Instr) → ℕ → ImageParts
    parts_of names code fitted codes entry = record {
      machine = kit.machine;
      entry = text_address + slice_index (function_places code) entry;
      text = image_text kit growth codes;
      table = fitted.table;
      values = value_bytes names build.units fitted.addresses;
      symbols = fitted.symbols;
    }

    -- the bytes tell the code of the functions, the table that tells their lines, the data, the symbols and the entry of the build
    pub record IsWritten (names : List Entry) (code : List (UnitCode Instr)) (fitted : Fitted) (codes : List (Code Instr)) (bytes : List ℕ)
        : Type 0 where
      pub entry : ℕ
      pub entry_is : IsEntryAt names build.entry (functions_in code) entry
      pub whole : bytes ≡ image_bytes (parts_of names code fitted codes entry)
      pub form : IsImage bytes
      pub told : Tells (parts_of names code fitted codes entry) bytes

    -- The bytes are the image of the build: nothing is wrong with it, and they are written of it
    pub record IsLinked (bytes : List ℕ) : Type 0 where
      pub names : List Entry
      pub code : List (UnitCode Instr)
      pub fitted : Fitted
      pub codes : List (Code Instr)
      pub around : Around
      pub kept : IsKept names code fitted codes around
      pub written : IsWritten names code fitted codes bytes

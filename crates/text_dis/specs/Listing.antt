-- The text of an image: its functions in the order of addresses, each with its name and its instructions.
use Rattle.std.specs.Prelude.{◌≡◌, ℕ, zero, suc, List, [], ◌++◌, codes}
use Rattle.std.specs.List.{flat_map}
use Rattle.std.specs.Option.{unwrap_or}
use Rattle.goasm_base.specs.Numbers.{hex_text}
use Rattle.asm_target.specs.declared.body.Placed.{Placed}
use Rattle.asm_target.specs.InstructionSet.{InstructionSet}
use Rattle.elf_image.specs.Contents.{table_in}
use Rattle.pclntab.specs.Func.{name_of}
use Rattle.image_model.specs.Listed.{Listed}
use Rattle.image_rules.specs.Functions.{AreFunctionsOf}
use Rattle.image_rules.specs.Machine.{Machine}
use Rattle.image_rules.specs.Parts.{count_in}
use Rattle.text_dis.specs.Raw.{said_text}

-- the name of a function, which an image's table tells
abbrev pub function_name : List ℕ → ℕ → List ℕ
function_name bytes index = unwrap_or (name_of (table_in bytes) index) []

module _ {Instr : Type 0} (set : InstructionSet Instr) where
  -- `ADDRESS HEX TEXT` and a newline
  abbrev pub instr_text : Placed Instr → List ℕ
  instr_text one = hex_text one.at ++ said_text (set.spelling one.instr) (set.text one.instr one.at)

  -- `TEXT NAME` and a newline, and the line of each instruction
  abbrev pub function_text : List ℕ → List (Placed Instr) → List ℕ
  function_text name code = codes "TEXT " ++ name ++ codes "\n" ++ flat_map instr_text code

  -- the functions below a number, one behind the other
  abbrev pub functions_text : List ℕ → (ℕ → Listed Instr) → ℕ → List ℕ
  functions_text bytes functions zero = []
  functions_text bytes functions (suc index) =
      functions_text bytes functions index ++ function_text (function_name bytes index) (functions index).code

-- an image has this text
pub record IsText {Instr : Type 0} (machine : Machine Instr) (bytes text : List ℕ) : Type 0 where
  pub functions : ℕ → Listed Instr
  pub are : AreFunctionsOf machine bytes functions (count_in bytes)
  pub says : text ≡ functions_text machine.set bytes functions (count_in bytes)

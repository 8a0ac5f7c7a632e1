-- The text of an image.
use Rattle.std.specs.Prelude.{◌≡◌, ℕ, List, All, Option, map}
use Rattle.asm_target.specs.Aiming as aiming
use Rattle.link_assembly.specs.Assembly.{machine_with}
use Rattle.link_code.specs.declared.placing.Code.{Code}
use Rattle.link_laws.specs.Made.{Made, bytes_of}
use Rattle.unit_listing.specs.Kit.{Kit}

module _ {Instr : Type 0} where
  abbrev pub instructions_of : Code Instr → List Instr
  instructions_of code = map (λ placed. placed.instr) code.placed.items

  -- a function as an image has it
  abbrev pub made : Code Instr → Made Instr
  made code = record { code = instructions_of code; depths = code.depths.items }

module _ {Instr : Type 0} (kit : Kit Instr) where
  -- the functions, one behind the other, each with padding behind it up to a multiple of 16
  abbrev pub image_text : Option ℕ → List (Code Instr) → List ℕ
  image_text growth codes = bytes_of (machine_with kit growth) (map made codes)

  -- the instructions are of the target's list, and have so many bytes
  pub record HasSize (size : ℕ) (code : Code Instr) : Type 0 where
    pub fit : All kit.fits (instructions_of code)
    pub long : aiming.bytes_of kit.set (instructions_of code) ≡ size

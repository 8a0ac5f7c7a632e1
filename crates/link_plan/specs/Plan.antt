-- Where the functions and the data of a build stand, and the limits that it may pass.
use Rattle.std.specs.Prelude.{◌≡◌, ◌⊎◌, ℕ, ◌<◌, ◌≤◌, ◌^◌, List, length}
use Rattle.byte_layout.specs.Joined.{aligned}
use Rattle.asm_parse.specs.declared.unit.Unit.{Unit as Said}
use Rattle.link_names.specs.Definitions.{Entry}
use Rattle.link_functions.specs.declared.code.UnitCode.{UnitCode}
use Rattle.link_places.specs.declared.places.Places.{Places}
use Rattle.link_places.specs.Places.{places_from, end_from}
use Rattle.link_values.specs.Values.{values_end}
use Rattle.link_plan.specs.Sizes.{code_sizes}

-- things of these sizes stand one behind the other from 0 on, within 2^24 bytes
pub record IsPlaced (sizes : List ℕ) (places : Places) : Type 0 where
  pub at : places.at ≡ places_from 0 sizes
  pub end : places.end ≡ end_from 0 sizes
  pub small : places.end ≤ 2 ^ 24

module _ {Instr : Type 0} where
  abbrev pub function_count : List (UnitCode Instr) → ℕ
  function_count code = length (code_sizes code)

  -- how many bytes the text has, each function with what lies behind it up to a multiple of 16
  abbrev pub text_size : List (UnitCode Instr) → ℕ
  text_size code = aligned 16 (end_from 0 (code_sizes code))

  abbrev pub HasTooMuchCode : List (UnitCode Instr) → Type 0
  HasTooMuchCode code = (65536 < function_count code) ⊎ (2 ^ 24 < text_size code)

  -- a build has too many functions, too long a text or too much data
  abbrev pub PassesLimit : List Entry → List Said → List (UnitCode Instr) → Type 0
  PassesLimit names units code = HasTooMuchCode code ⊎ (2 ^ 24 < values_end names units)

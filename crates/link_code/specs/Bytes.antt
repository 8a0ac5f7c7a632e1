-- The bytes of a function.
use Rattle.std.specs.Prelude.{◌≡◌, ℕ, ◌%◌, ◌<◌, List, ◌++◌, length, map, replicate}
use Rattle.std.specs.List.{flat_map}
use Rattle.asm_target.specs.declared.body.Placed.{Placed}
use Rattle.asm_target.specs.InstructionSet.{InstructionSet}
use Rattle.image_rules.specs.Functions.{padding_byte}
use Rattle.image_rules.specs.Parts.{alignment}

-- Behind a text stand the spellings of the instructions, and then fewer bytes of padding than the next multiple of 16 takes
pub record IsPadded {Instr : Type 0} (set : InstructionSet Instr) (machine : ℕ) (code : List (Placed Instr)) (before after : List ℕ) : Type 0 where
  pub padding : ℕ
  pub short : padding < alignment
  pub whole : after ≡ before ++ flat_map set.spelling (map (λ one. one.instr) code) ++ replicate padding (padding_byte machine)
  pub aligned : length after % alignment ≡ 0

-- The instructions that were read of a function's bytes, and the padding behind them.
use Rattle.std.specs.Prelude.{◌≡◌, ◌<◌, ◌≤◌, ◌%◌, ℕ, suc, List, ◌++◌, All, length, drop}
use Rattle.std.specs.Prelude.{replicate}
use Rattle.std.specs.List.{flat_map}
use Rattle.asm_target.specs.declared.body.Placed.{Placed}
use Rattle.asm_target.specs.InstructionSet.{InstructionSet}
use Rattle.elf_image.specs.Contents.{table_in, text_address, text_in}
use Rattle.pclntab.specs.Places.{text_start}
use Rattle.image_rules.specs.Functions.{ends_from, placed_from}
use Rattle.image_rules.specs.Parts.{alignment, offset_in}

-- The first bytes of a function, so many, are instructions of the target, one behind the other: at these places from the function's
-- entry on, and with these ends, in bytes from there
pub record IsCodeTo {Instr : Type 0} (set : InstructionSet Instr) (fits : Instr → Type 0) (own : List ℕ) (entry : ℕ)
    (placed : List (Placed Instr)) (ends : List ℕ) (size : ℕ) : Type 0 where
  pub code : List Instr
  pub fit : All fits code
  pub whole : own ≡ flat_map set.spelling code ++ drop size own
  pub long : size ≡ length (flat_map set.spelling code)
  pub places : placed ≡ placed_from set entry code
  pub behind : ends ≡ ends_from set 0 code

-- what stands behind a function's instructions is padding of this byte, shorter than what the next multiple of 16 takes
pub record IsPadded (byte : ℕ) (own rest : List ℕ) : Type 0 where
  pub same : rest ≡ replicate (length rest) byte
  pub short : length rest < alignment
  pub whole : length own % alignment ≡ 0

-- there are instructions, so many, and what stands behind them is such padding
pub record IsWhole (byte count : ℕ) (own rest : List ℕ) : Type 0 where
  pub some : 0 < count
  pub padded : IsPadded byte own rest

-- a function of the table lies within the text
pub record IsInText (bytes : List ℕ) (index : ℕ) : Type 0 where
  pub start : text_start (table_in bytes) ≡ text_address
  pub rises : offset_in bytes index ≤ offset_in bytes (suc index)
  pub inside : offset_in bytes (suc index) ≤ length (text_in bytes)

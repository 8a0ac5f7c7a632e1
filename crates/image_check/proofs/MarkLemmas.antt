-- The marks of a function's instructions, one after the other.
use Rattle.std.proofs.Common.{◌≡◌, ℕ, ◌+◌, ◌||◌, Bool, List, take}
use Rattle.std.specs.List.{list_any}
use Rattle.asm_target.specs.declared.body.Placed.{Placed}
use Rattle.elf_image.specs.Contents.{text_address}
use Rattle.image_marks.specs.Bits.{has, room}

-- a set has the numbers of another and those that some test tells of the first instructions
pub record HasAdded {Instr : Type 0} (test : ℕ → Placed Instr → Bool) (code : List (Placed Instr)) (count : ℕ) (before after : List ℕ) : Type 0 where
  pub same : (offset : ℕ) → has after offset ≡ (has before offset || list_any (test (text_address + offset)) (take count code))
  pub room_is : room after ≡ room before

-- Instructions that were put behind others at their places.
use Rattle.std.specs.Prelude.{◌≡◌, ℕ, ◌+◌, List, ◌++◌, All}
use Rattle.asm_target.specs.declared.body.Placed.{Placed}
use Rattle.asm_target.specs.Aiming.{bytes_of}
use Rattle.asm_target.specs.InstructionSet.{InstructionSet}
use Rattle.image_rules.specs.Functions.{placed_from}

module _ {Instr : Type 0} (set : InstructionSet Instr) (fits : Instr → Type 0) where
  -- such instructions stand one behind the other from `at` up to `past`, behind those before
  pub record AreAdded (Is : List Instr → Type 0) (at past : ℕ) (before after : List (Placed Instr)) : Type 0 where
    pub code : List Instr
    pub are : Is code
    pub fit : All fits code
    pub long : past ≡ at + bytes_of set code
    pub behind : after ≡ before ++ placed_from set at code

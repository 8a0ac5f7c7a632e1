-- What the rules of an image need of a target.
use Rattle.std.specs.Prelude.{ℕ, List, Option}
use Rattle.machine_effect.specs.declared.flow.Shape.{Shape}
use Rattle.asm_target.specs.declared.sequence.Sequence.{Sequence}
use Rattle.asm_target.specs.InstructionSet.{InstructionSet}

-- the data of a target, as the traits `Processor` and `Target` have them
pub record Machine (Instr : Type 0) : Type 1 where
  pub set : InstructionSet Instr
  pub fits : Instr → Type 0
  pub number : ℕ
  pub quantum : ℕ
  pub shape : Shape
  pub growth : Option ℕ
  pub begins : List Instr → Sequence

abbrev pub machine_of : {Instr : Type 0} → InstructionSet Instr → (Instr → Type 0) → ℕ → ℕ → Shape → Option ℕ
    → (List Instr → Sequence) → Machine Instr
machine_of set fits number quantum shape growth begins = record {
  set = set;
  fits = fits;
  number = number;
  quantum = quantum;
  shape = shape;
  growth = growth;
  begins = begins;
}

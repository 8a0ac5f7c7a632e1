-- The laws of the trait `Processor`.
use Rattle.std.specs.Prelude.{◌≡◌, ℕ, ℤ, List, ◌++◌, ◌%◌, ◌^◌, ◌<◌, ◌≤◌, length}
use Rattle.machine_effect.specs.declared.flow.Shape.{Shape}
use Rattle.machine_effect.specs.declared.flow.SpMove.TheVariants.{By}
use Rattle.machine_effect.specs.Flow.{flow_of}
use Rattle.machine_effect.specs.Shapes.{IsStackDistance}
use Rattle.machine_effect.specs.Bounds.{IsBounded, OnlyGoes, LinksBy}
use Rattle.asm_target.specs.Architecture.{padding_of}
use Rattle.asm_target.specs.InstructionSet.{InstructionSet, Begins}

-- the length of a spelling, in bytes
pub record IsLength (quantum n : ℕ) : Type 0 where
  pub least : 1 ≤ n
  pub most : n ≤ 15
  pub whole : n % quantum ≡ 0

module _ {Instr : Type 0} (set : InstructionSet Instr) (fits : Instr → Type 0) where
  -- a spelling has 1 to 15 bytes, in whole quanta
  abbrev pub HasLengths : ℕ → Type 0
  HasLengths quantum = (i : Instr) → fits i → IsLength quantum (length (set.spelling i))

  -- bytes begin with at most one instruction
  abbrev pub IsPrefixFree : Type 0
  IsPrefixFree =
      (i j : Instr) (bytes : List ℕ) → fits i → fits j → Begins set bytes i → Begins set bytes j → i ≡ j

  -- where padding begins, no instruction does
  abbrev pub AvoidsPadding : ℕ → Type 0
  AvoidsPadding machine =
      (i : Instr) (rest : List ℕ) → fits i → ¬ Begins set (padding_of machine ++ rest) i

  -- a constant by which an effect moves the stack pointer is small
  abbrev pub HasSmallMoves : Shape → Type 0
  HasSmallMoves shape =
      (i : Instr) (pc : ℕ) (k : ℤ) → fits i → (flow_of (set.effect i pc) shape).sp ≡ By k → IsStackDistance k

  -- an effect names registers, widths and scales that there are
  abbrev pub HasBoundedEffects : Type 0
  HasBoundedEffects = (i : Instr) (pc : ℕ) → fits i → pc < 2 ^ 64 → IsBounded (set.effect i pc)

  -- an instruction behind which the machine doesn't go on does nothing else, but for the link of a call
  abbrev pub HasOnlyGoing : Type 0
  HasOnlyGoing = (i : Instr) (pc : ℕ) → fits i → pc < 2 ^ 64 → OnlyGoes (set.effect i pc)

  -- a call has a link exactly where there is a link register, and it isn't the stack pointer
  abbrev pub HasLinks : Shape → Type 0
  HasLinks shape = (i : Instr) (pc : ℕ) → fits i → pc < 2 ^ 64 → LinksBy shape (set.effect i pc).next

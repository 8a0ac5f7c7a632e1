-- The text of machine code as a function, where a function tells which instruction bytes begin with.
use Rattle.std.specs.Prelude.{◌≡◌, ℕ, zero, suc, List, [], ◌∷◌, ◌++◌, ◌+◌, min, length, take, drop, codes, Option, Some, None, IfSome}
use Rattle.asm_target.specs.InstructionSet.{InstructionSet, Begins, IsFirst}
use Rattle.text_dis.specs.Raw.{line_text}

module _ {Instr : Type 0} (set : InstructionSet Instr) where
  -- the function tells of any bytes which instruction they begin with, and how long that is, or that they begin with none
  pub record IsReading (fits : Instr → Type 0) (reading : List ℕ → Option (Instr × ℕ)) : Type 0 where
    pub found : (bytes : List ℕ) → IfSome (reading bytes) (λ found. IsFirst set fits bytes found.0 found.1)
    pub none : (bytes : List ℕ) → reading bytes ≡ None → (i : Instr) → fits i → ¬ Begins set bytes i

  -- of how many bytes the first line is
  abbrev pub first_len : ℕ → List ℕ → Option (Instr × ℕ) → ℕ
  first_len quantum bytes (Some found) = found.1
  first_len quantum bytes None = min quantum (length bytes)

  -- what that line says of them
  abbrev pub first_said : ℕ → Option (Instr × ℕ) → List ℕ
  first_said offset (Some found) = set.text found.0 offset
  first_said offset None = codes "?"

  module _ (quantum : ℕ) (reading : List ℕ → Option (Instr × ℕ)) where
    -- the first line
    abbrev pub first_line : ℕ → List ℕ → List ℕ
    first_line offset bytes =
        line_text offset (take (first_len quantum bytes (reading bytes)) bytes) (first_said offset (reading bytes))

    -- the text of bytes that stand at a place, of this many lines at most
    abbrev pub text_within : ℕ → ℕ → List ℕ → List ℕ
    text_within zero offset bytes = []
    text_within (suc count) offset [] = []
    text_within (suc count) offset (byte ∷ bytes) =
        first_line offset (byte ∷ bytes)
        ++ text_within count (offset + first_len quantum (byte ∷ bytes) (reading (byte ∷ bytes)))
        (drop (first_len quantum (byte ∷ bytes) (reading (byte ∷ bytes))) (byte ∷ bytes))

    -- each line is of one byte at least, so there are no more lines than bytes
    unfoldable pub raw_text : List ℕ → List ℕ
    raw_text bytes = text_within (length bytes) 0 bytes

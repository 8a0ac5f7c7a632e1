-- What the instructions of a target mean, and what bytes they are.
use Rattle.std.specs.Prelude.{◌≡◌, ℕ, List, ◌++◌, length, drop, All}
use Rattle.std.specs.List.{flat_map}
use Rattle.machine_effect.specs.declared.effect.Effect.{Effect}

-- the bytes of each instruction, and at each address what it does and how a disassembler prints it
pub record InstructionSet (Instr : Type 0) : Type 0 where
  pub spelling : Instr → List ℕ
  pub effect : Instr → ℕ → Effect
  pub text : Instr → ℕ → List ℕ

module _ {Instr : Type 0} (set : InstructionSet Instr) where
  -- the bytes begin with the spelling of the instruction
  abbrev pub Begins : List ℕ → Instr → Type 0
  Begins bytes i = bytes ≡ set.spelling i ++ drop (length (set.spelling i)) bytes

  -- the bytes begin with this instruction, whose spelling has this length
  pub record IsFirst (fits : Instr → Type 0) (bytes : List ℕ) (i : Instr) (n : ℕ) : Type 0 where
    pub fit : fits i
    pub begins : Begins bytes i
    pub len : n ≡ length (set.spelling i)

  -- the bytes are the spellings of these instructions, one behind the other, and then a rest that begins with no spelling
  pub record IsListing (fits : Instr → Type 0) (bytes : List ℕ) (code : List Instr) (rest : List ℕ) : Type 0 where
    pub fit : All fits code
    pub whole : bytes ≡ flat_map set.spelling code ++ rest
    pub ends : (i : Instr) → fits i → ¬ Begins rest i

-- Machine code as text: a line for each instruction, and for bytes that begin with none.
use Rattle.std.specs.Prelude.{◌≡◌, ◌⊎◌, ℕ, pos, List, [], ◌∷◌, ◌++◌, ◌+◌, ◌<◌, min, length, take, drop, codes}
use Rattle.std.specs.List.{flat_map}
use Rattle.hex.specs.Hex.{encode_lower}
use Rattle.goasm_base.specs.Numbers.{decimal_text}
use Rattle.asm_target.specs.InstructionSet.{InstructionSet, Begins, IsFirst}

-- ` HEX TEXT` and a newline: bytes with two small digits each, and what is said of them
abbrev pub said_text : List ℕ → List ℕ → List ℕ
said_text bytes said = codes " " ++ encode_lower bytes ++ codes " " ++ said ++ codes "\n"

-- `OFFSET HEX TEXT` and a newline, with a place in decimal
abbrev pub line_text : ℕ → List ℕ → List ℕ → List ℕ
line_text offset bytes said = decimal_text (pos offset) ++ said_text bytes said

module _ {Instr : Type 0} (set : InstructionSet Instr) (fits : Instr → Type 0) (quantum : ℕ) where
  -- the line of the instruction that the bytes begin with, of n bytes: its text is that at the place where it stands
  abbrev pub IsInstructionLine : ℕ → List ℕ → List ℕ → ℕ → Type 0
  IsInstructionLine offset bytes line n =
      (i : Instr) × IsFirst set fits bytes i n × (line ≡ line_text offset (take n bytes) (set.text i offset))

  -- the line of bytes that begin with no instruction: of one quantum of them, or of all where they are fewer
  pub record IsUnreadLine (offset : ℕ) (bytes line : List ℕ) (n : ℕ) : Type 0 where
    pub some : 0 < length bytes
    pub none : (i : Instr) → fits i → ¬ Begins set bytes i
    pub len : n ≡ min quantum (length bytes)
    pub says : line ≡ line_text offset (take n bytes) (codes "?")

  -- the first line of bytes that stand at a place, and of how many bytes it is
  abbrev pub IsLine : ℕ → List ℕ → List ℕ → ℕ → Type 0
  IsLine offset bytes line n = IsInstructionLine offset bytes line n ⊎ IsUnreadLine offset bytes line n

  -- the lines of bytes that stand at a place, each of what the lines before it leave
  abbrev pub AreLines : ℕ → List ℕ → List (List ℕ) → Type 0
  AreLines offset bytes [] = bytes ≡ []
  AreLines offset bytes (line ∷ lines) =
      (n : ℕ) × IsLine offset bytes line n × AreLines (offset + n) (drop n bytes) lines

  -- the text of bytes that stand at a place
  abbrev pub IsRaw : ℕ → List ℕ → List ℕ → Type 0
  IsRaw offset bytes text =
      (lines : List (List ℕ)) × AreLines offset bytes lines × (text ≡ flat_map (λ line. line) lines)

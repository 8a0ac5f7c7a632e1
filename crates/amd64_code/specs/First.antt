-- The listed instruction that bytes begin with, as a function of them.
use Rattle.std.specs.Prelude.{ℕ, Bool, true, false, List, [], ◌∷◌, ◌==◌, ◌&&◌, length, Option, Some, None, if◌then◌else◌}
use Rattle.amd64_table.specs.declared.instr.Instr.{Instr}
use Rattle.amd64_table.specs.Fits.{fits}
use Rattle.amd64_code.specs.Spelling.{spelling_of}
use Rattle.amd64_code.specs.Reading.{reading}

-- whether bytes begin with these
abbrev pub starts_with : List ℕ → List ℕ → Bool
starts_with [] bytes = true
starts_with (byte ∷ front) [] = false
starts_with (byte ∷ front) (other ∷ bytes) = byte == other && starts_with front bytes

-- an instruction and its length, where the list has it and bytes begin with its spelling
abbrev pub if_spelled : Instr → List ℕ → Option (Instr × ℕ)
if_spelled i bytes =
    if fits i && starts_with (spelling_of i) bytes then Some (i, length (spelling_of i)) else None

-- the instruction that bytes begin with, and the length of its spelling
unfoldable pub first_in : List ℕ → Option (Instr × ℕ)
first_in bytes = if_spelled (reading bytes) bytes

-- Bytes over which others are written.
use Rattle.std.specs.Prelude.{ℕ, ◌+◌, ◌-◌, ◌≤◌, nat_le, List, [], ◌∷◌, ◌++◌, length, take, drop, Option, None, if◌then◌else◌}
use Rattle.std.specs.List.{slice_get}
use Rattle.std.specs.Option.{option_or}

-- a write: where it begins, and its bytes
abbrev pub Write : Type 0
Write = ℕ × List ℕ

-- it ends within so many bytes
abbrev pub IsInside : ℕ → Write → Type 0
IsInside size write = write.0 + length write.1 ≤ size

-- bytes with a write over them
unfoldable pub written : List ℕ → Write → List ℕ
written bytes write = take write.0 bytes ++ write.1 ++ drop (write.0 + length write.1) bytes

-- bytes with writes over them, one after the other
unfoldable pub written_over : List ℕ → List Write → List ℕ
written_over bytes [] = bytes
written_over bytes (write ∷ writes) = written_over (written bytes write) writes

-- the byte that a write gives to a place, where it has the place
abbrev pub byte_in : Write → ℕ → Option ℕ
byte_in write place = if nat_le write.0 place then slice_get write.1 (place - write.0) else None

-- the byte that the last of the writes gives to a place that has the place
unfoldable pub last_byte : List Write → ℕ → Option ℕ
last_byte [] place = None
last_byte (write ∷ writes) place = option_or (last_byte writes place) (byte_in write place)

-- The variable-length numbers of a pc-value table: seven bits a byte, the lowest first, and a high bit on
-- each byte but the last. A number has at most 5 bytes and 32 bits.
use Rattle.std.specs.Prelude.{ℕ, zero, suc, List, [], ◌∷◌, ◌+◌, ◌-◌, ◌*◌, ◌^◌, nat_lt, Option, Some, None, if◌then◌else◌}
use Rattle.std.specs.Option.{option_and_then}

-- a number's lowest byte, before the rest of the number and the bytes behind it
abbrev pub below : ℕ → ℕ × List ℕ → Option (ℕ × List ℕ)
below byte high =
    if nat_lt (byte - 128 + 128 * high.0) (2 ^ 32) then Some (byte - 128 + 128 * high.0, high.1) else None

-- the number of at most this many bytes that the bytes begin with, and the bytes behind it
unfoldable pub varint_within : ℕ → List ℕ → Option (ℕ × List ℕ)
varint_within zero bytes = None
varint_within (suc most) [] = None
varint_within (suc most) (byte ∷ bytes) =
    if nat_lt byte 128 then Some (byte, bytes) else option_and_then (below byte) (varint_within most bytes)

-- the number that the bytes begin with, and the bytes behind it
unfoldable pub varint : List ℕ → Option (ℕ × List ℕ)
varint bytes = varint_within 5 bytes

-- Displacements and constants: signed, lowest byte first.
use Rattle.std.specs.Prelude.{ℕ, ℤ, List, [], ◌∷◌, slice_index, if◌then◌else◌}
use Rattle.std.specs.Int.{w8, w32, w64, cast_signed, cast_unsigned, from_le_bytes, to_le_bytes}
use Rattle.machine_effect.specs.Numbers.{fits as fits_bits}

abbrev pub byte_of : ℤ → List ℕ
byte_of constant = cast_unsigned w8 constant ∷ []

abbrev pub long_of : ℤ → List ℕ
long_of constant = to_le_bytes w32 (cast_unsigned w32 constant)

abbrev pub quad_of : ℤ → List ℕ
quad_of constant = to_le_bytes w64 (cast_unsigned w64 constant)

-- one byte where that is enough, otherwise four
unfoldable pub short_of : ℤ → List ℕ
short_of constant = if fits_bits 8 constant then byte_of constant else long_of constant

-- the constants that bytes begin with
unfoldable pub byte_in : List ℕ → ℤ
byte_in bytes = cast_signed w8 (slice_index bytes 0)

unfoldable pub unsigned_in : List ℕ → ℕ
unsigned_in bytes = from_le_bytes w32
    (slice_index bytes 0 ∷ slice_index bytes 1 ∷ slice_index bytes 2 ∷ slice_index bytes 3 ∷ [])

unfoldable pub long_in : List ℕ → ℤ
long_in bytes = cast_signed w32 (unsigned_in bytes)

unfoldable pub quad_in : List ℕ → ℤ
quad_in bytes = cast_signed w64 (from_le_bytes w64
    (slice_index bytes 0 ∷ slice_index bytes 1 ∷ slice_index bytes 2 ∷ slice_index bytes 3
    ∷ slice_index bytes 4 ∷ slice_index bytes 5 ∷ slice_index bytes 6 ∷ slice_index bytes 7 ∷ []))

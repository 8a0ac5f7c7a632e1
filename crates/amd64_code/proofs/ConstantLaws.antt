-- The bytes of a constant give it back, whatever follows.
use Rattle.std.specs.Int.{w8, w32, w64, cast_signed, cast_unsigned, to_le_bytes}
use Rattle.std.specs.Prelude.{FitsSigned, pos, negsuc}
use Rattle.std.proofs.Common.{◌≡◌, ℕ, ℤ, List, ◌++◌, ◌<◌, ◌*◌, ◌^◌, ap, ◌∙◌, arith, true}
use Rattle.std.proofs.lemmas.Int.{to_z-of_z, ints}
use Rattle.std.proofs.lemmas.Bool.{ltb-true}
use Rattle.std.proofs.lemmas.Nat.{from_le_bytes-to_le_bytes_4, from_le_bytes-to_le_bytes_8}
use Rattle.machine_effect.specs.Numbers.{fits as fits_bits}
use Rattle.amd64_code.specs.Constants.{byte_of, long_of, quad_of, byte_in, unsigned_in, long_in, quad_in}

pub signed_8 : (c : ℤ) → fits_bits 8 c ≡ true → FitsSigned w8 c
signed_8 (pos n) fit = omega (arith, ints, ltb-true (2 * n) 256 fit)
signed_8 (negsuc n) fit = omega (arith, ints, ltb-true (2 * n) 256 fit)

pub signed_32 : (c : ℤ) → fits_bits 32 c ≡ true → FitsSigned w32 c
signed_32 (pos n) fit = omega (arith, ints, ltb-true (2 * n) (2 ^ 32) fit)
signed_32 (negsuc n) fit = omega (arith, ints, ltb-true (2 * n) (2 ^ 32) fit)

pub signed_64 : (c : ℤ) → fits_bits 64 c ≡ true → FitsSigned w64 c
signed_64 (pos n) fit = omega (arith, ints, ltb-true (2 * n) (2 ^ 64) fit)
signed_64 (negsuc n) fit = omega (arith, ints, ltb-true (2 * n) (2 ^ 64) fit)

pub byte_back : (c : ℤ) (rest : List ℕ) → fits_bits 8 c ≡ true → byte_in (byte_of c ++ rest) ≡ c
unfolding byte_in
byte_back c rest fit = to_z-of_z w8 c (signed_8 c fit)

pub unsigned_back : (n : ℕ) (rest : List ℕ) → n < 2 ^ 32 → unsigned_in (to_le_bytes w32 n ++ rest) ≡ n
unfolding unsigned_in
unsigned_back n rest fit = from_le_bytes-to_le_bytes_4 n fit

pub long_back : (c : ℤ) (rest : List ℕ) → fits_bits 32 c ≡ true → long_in (long_of c ++ rest) ≡ c
unfolding long_in
long_back c rest fit =
    let fits : FitsSigned w32 c = signed_32 c fit in
    let bound : cast_unsigned w32 c < 2 ^ 32 = omega (arith, ints) in
    ap (cast_signed w32) (unsigned_back (cast_unsigned w32 c) rest bound) ∙ to_z-of_z w32 c fits

pub quad_back : (c : ℤ) (rest : List ℕ) → fits_bits 64 c ≡ true → quad_in (quad_of c ++ rest) ≡ c
unfolding quad_in
quad_back c rest fit =
    let fits : FitsSigned w64 c = signed_64 c fit in
    let bound : cast_unsigned w64 c < 2 ^ 64 = omega (arith, ints) in
    ap (cast_signed w64) (from_le_bytes-to_le_bytes_8 (cast_unsigned w64 c) bound) ∙ to_z-of_z w64 c fits

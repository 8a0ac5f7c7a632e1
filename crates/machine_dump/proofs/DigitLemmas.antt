-- Numbers in sixteen digits stay below 2 ^ 64.
use Rattle.std.proofs.Common.{◌≡◌, ℕ, ◌+◌, ◌*◌, ◌^◌, ◌<◌, ◌≤◌, List, length, drop, get_or, sym, ap, ◌∙◌, arith}
use Rattle.std.proofs.lemmas.Nat.{pow-add}
use Rattle.std.proofs.lemmas.List.{drop_more}
use Rattle.machine_dump.specs.Digits.{digit_of, hex_after}
use Rattle.std.proofs.Math.Pow.{pow_mono}

-- one more digit behind a number of this many
pub grown : (value digit i : ℕ) → value < 2 ^ (4 * i) → digit < 16 → 16 * value + digit < 2 ^ (4 * (i + 1))
grown value digit i below small =
    let sum : 4 * (i + 1) ≡ 4 * i + 4 = omega arith in
    let more : 2 ^ (4 * (i + 1)) ≡ 2 ^ (4 * i) * 2 ^ 4 = ap (λ n. 2 ^ n) sum ∙ pow-add 2 (4 * i) 4 in
    rw more (omega (arith, below, small))

pub fits : (value digit i : ℕ) → value < 2 ^ (4 * i) → digit < 16 → i < 16 → 16 * value + digit < 2 ^ 64
fits value digit i below small few =
    let more : 16 * value + digit < 2 ^ (4 * (i + 1)) = grown value digit i below small in
    let most : 2 ^ (4 * (i + 1)) ≤ 2 ^ 64 = pow_mono {i = 4 * (i + 1)} {j = 64} (omega (arith, few)) in
    omega (arith, more, most)

-- one more digit of the text
pub next_value : (digits : List ℕ) (value digit i : ℕ) → i < length digits → digit ≡ digit_of (get_or digits i 0)
    → hex_after value (drop i digits) ≡ hex_after 0 digits → hex_after (16 * value + digit) (drop (i + 1) digits) ≡ hex_after 0 digits
next_value digits value digit i inside is same =
    rw is (sym (ap (hex_after value) (drop_more digits i 0 inside)) ∙ same)

-- one more byte before a number whose digits are this many
pub byte_grown : (value byte n m : ℕ) → value < 2 ^ (4 * n) → byte < 256 → n + 2 ≡ m → byte + 256 * value < 2 ^ (4 * m)
byte_grown value byte n m below small count =
    let sum : 4 * m ≡ 4 * n + 8 = omega (arith, count) in
    let more : 2 ^ (4 * m) ≡ 2 ^ (4 * n) * 2 ^ 8 = ap (λ n. 2 ^ n) sum ∙ pow-add 2 (4 * n) 8 in
    rw more (omega (arith, below, small))

pub byte_fits : (value byte n m : ℕ) → value < 2 ^ (4 * n) → byte < 256 → n + 2 ≡ m → m ≤ 16 → byte + 256 * value < 2 ^ 64
byte_fits value byte n m below small count few =
    let more : byte + 256 * value < 2 ^ (4 * m) = byte_grown value byte n m below small count in
    let most : 2 ^ (4 * m) ≤ 2 ^ 64 = pow_mono {i = 4 * m} {j = 64} (omega (arith, few)) in
    omega (arith, more, most)

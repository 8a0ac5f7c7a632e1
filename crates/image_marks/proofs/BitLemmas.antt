-- One bit of a set of numbers.
use Rattle.std.proofs.Common.{◌≡◌, ◌≢◌, ℕ, true, false, ◌*◌, ◌/◌, ◌%◌, ◌^◌, ◌<◌, ◌≤◌, ◌==◌, ◌||◌, List, length, get_or, set, replicate, bit_and, bit_or, w64, refl, ◌∙◌, ap, inl, inr, arith, get_or-set_same, get_or-set_other}
use Rattle.std.specs.Int.{bit_at}
use Rattle.std.proofs.lemmas.Nat.Bits.{bit_at-zero, bit_at_set_same, bit_at_set_other, shr_and_one}
use Rattle.std.proofs.lemmas.Grind.{get_or_default_zero}
use Rattle.std.proofs.lemmas.List.{get_or-replicate, get_or_past, length-replicate}
use Rattle.std.proofs.lemmas.Bool.{cases_lt}
use Rattle.std.proofs.lemmas.Bool.Decides.{eqb_tells}
use Rattle.image_marks.specs.Bits.{has}

-- what is read of a word is whether the number is in the set
pub read_has : (words : List ℕ) (number word : ℕ) → number / 64 < length words → word ≡ get_or words (number / 64) word
    → (bit_and (word / 2 ^ (number % 64)) 1 == 1) ≡ has words number
unfolding has
read_has words number word inside is =
    let same : word ≡ get_or words (number / 64) 0 = is ∙ get_or_default_zero words (number / 64) word inside in
    ap (λ bit. bit == 1) (shr_and_one word (number % 64)) ∙ ap (λ w. bit_at w (number % 64) == 1) same

pub past_has : (words : List ℕ) (number : ℕ) → length words ≤ number / 64 → has words number ≡ false
unfolding has
past_has words number past = rw (get_or_past words (number / 64) 0 past, bit_at-zero (number % 64)) refl

pub none_has : (count number : ℕ) → has (replicate count 0) number ≡ false
unfolding has
none_has count number = elim (cases_lt (number / 64) count) [
  | inl inside ↦ rw (get_or-replicate {A = ℕ} count (number / 64) 0 0 inside, bit_at-zero (number % 64)) refl
  | inr past ↦
      let words : List ℕ = replicate count 0 in
      let none : get_or words (number / 64) 0 ≡ 0 = get_or_past words (number / 64) 0 (omega (arith, length-replicate {A = ℕ} count 0)) in
      rw (none, bit_at-zero (number % 64)) refl
]

-- a word with the bit of one more number
abbrev with : ℕ → ℕ → ℕ
with word number = bit_or word (1 * 2 ^ (number % 64) % 2 ^ 64)

added_itself : (words : List ℕ) (number word : ℕ) → number / 64 < length words
    → has (set words (number / 64) (with word number)) number ≡ true
unfolding has
added_itself words number word inside =
    rw (get_or-set_same words (number / 64) (with word number) 0 inside, bit_at_set_same w64 word (number % 64) (omega arith)) refl

others_stay : (words : List ℕ) (number other word : ℕ) → number / 64 < length words → word ≡ get_or words (number / 64) 0
    → other ≢ number → has (set words (number / 64) (with word number)) other ≡ has words other
unfolding has
others_stay words number other word inside is differs = elim (eqb_tells (other / 64) (number / 64)) [
  | inl same ↦
      let place : other / 64 ≡ number / 64 = same.1 in
      let apart : other % 64 ≢ number % 64 = λ bit. differs (omega arith) in
      rw (place, get_or-set_same words (number / 64) (with word number) 0 inside, bit_at_set_other w64 word (number % 64) (omega arith) (other % 64) apart, is) refl
  | inr apart ↦ rw (get_or-set_other words (number / 64) (other / 64) (with word number) 0 apart.1) refl
]

pub added_has : (words : List ℕ) (number other word : ℕ) → number / 64 < length words → word ≡ get_or words (number / 64) 0
    → has (set words (number / 64) (bit_or word (1 * 2 ^ (number % 64) % 2 ^ 64))) other ≡ (other == number || has words other)
added_has words number other word inside is = elim (eqb_tells other number) [
  | inl same ↦ rw (same.0, same.1) (added_itself words number word inside)
  | inr apart ↦ rw (apart.0) (others_stay words number other word inside is apart.1)
]

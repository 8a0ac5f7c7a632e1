-- Bytes that are judged one by one.
use Rattle.std.proofs.Common.{◌≡◌, ℕ, suc, ◌+◌, ◌-◌, ◌<◌, ◌≤◌, true, false, nat_eq, List, [], ◌∷◌, length, drop, get_or, Some, None, refl, ◌∙◌, ap, arith}
use Rattle.std.specs.Prelude.{replicate}
use Rattle.std.proofs.lemmas.Bool.{eq-eqb, ne_eqb}
use Rattle.std.proofs.lemmas.List.{drop_more, drop_all}
use Rattle.elf_image.specs.declared.rows.Width.TheVariants.{Char}
use Rattle.elf_image.specs.Rows.{number_at, rows_fault, byte_rows}

first_is : (bytes : List ℕ) (at byte : ℕ) (rest : List ℕ) → number_at bytes at Char ≡ byte
    → rows_fault bytes at (byte_rows (byte ∷ rest)) ≡ rows_fault bytes (at + 1) (byte_rows rest)
unfolding byte_rows
first_is bytes at byte rest is =
    let same : nat_eq (number_at bytes at Char) byte ≡ true = eq-eqb (number_at bytes at Char) byte is in
    rw same refl

first_other : (bytes : List ℕ) (at byte : ℕ) (rest : List ℕ) → (number_at bytes at Char ≡ byte → ⊥)
    → rows_fault bytes at (byte_rows (byte ∷ rest)) ≡ Some at
unfolding byte_rows
first_other bytes at byte rest other =
    let differs : nat_eq (number_at bytes at Char) byte ≡ false = ne_eqb (number_at bytes at Char) byte other in
    rw differs refl

no_more : (bytes : List ℕ) (at : ℕ) → rows_fault bytes at (byte_rows []) ≡ None
unfolding byte_rows
no_more bytes at = refl

module _ (bytes : List ℕ) (to : ℕ) where
  more_zeros : (at : ℕ) → at < to → replicate {A = ℕ} (to - at) 0 ≡ 0 ∷ replicate (to - (at + 1)) 0
  more_zeros at inside =
      let one : to - at ≡ suc (to - (at + 1)) = omega arith in
      ap (λ n. replicate {A = ℕ} n 0) one

  pub zero_next : (at : ℕ) → at < to → number_at bytes at Char ≡ 0
      → rows_fault bytes at (byte_rows (replicate (to - at) 0)) ≡ rows_fault bytes (at + 1) (byte_rows (replicate (to - (at + 1)) 0))
  zero_next at inside is =
      ap (λ rest. rows_fault bytes at (byte_rows rest)) (more_zeros at inside)
      ∙ first_is bytes at 0 (replicate (to - (at + 1)) 0) is

  pub zero_other : (at : ℕ) → at < to → (number_at bytes at Char ≡ 0 → ⊥)
      → rows_fault bytes at (byte_rows (replicate (to - at) 0)) ≡ Some at
  zero_other at inside other =
      ap (λ rest. rows_fault bytes at (byte_rows rest)) (more_zeros at inside)
      ∙ first_other bytes at 0 (replicate (to - (at + 1)) 0) other

  pub zero_none : (at : ℕ) → to ≤ at → rows_fault bytes at (byte_rows (replicate (to - at) 0)) ≡ None
  zero_none at past =
      let none : to - at ≡ 0 = omega arith in
      ap (λ n. rows_fault bytes at (byte_rows (replicate n 0))) none ∙ no_more bytes at

module _ (bytes : List ℕ) (at : ℕ) (wanted : List ℕ) where
  pub byte_next : (index : ℕ) → index < length wanted → number_at bytes (at + index) Char ≡ get_or wanted index 0
      → rows_fault bytes (at + index) (byte_rows (drop index wanted)) ≡ rows_fault bytes (at + (index + 1)) (byte_rows (drop (index + 1) wanted))
  byte_next index inside is =
      let place : at + index + 1 ≡ at + (index + 1) = omega arith in
      ap (λ rest. rows_fault bytes (at + index) (byte_rows rest)) (drop_more wanted index 0 inside)
      ∙ first_is bytes (at + index) (get_or wanted index 0) (drop (index + 1) wanted) is
      ∙ ap (λ n. rows_fault bytes n (byte_rows (drop (index + 1) wanted))) place

  pub byte_other : (index : ℕ) → index < length wanted → (number_at bytes (at + index) Char ≡ get_or wanted index 0 → ⊥)
      → rows_fault bytes (at + index) (byte_rows (drop index wanted)) ≡ Some (at + index)
  byte_other index inside other =
      ap (λ rest. rows_fault bytes (at + index) (byte_rows rest)) (drop_more wanted index 0 inside)
      ∙ first_other bytes (at + index) (get_or wanted index 0) (drop (index + 1) wanted) other

  pub byte_none : (index : ℕ) → length wanted ≤ index → rows_fault bytes (at + index) (byte_rows (drop index wanted)) ≡ None
  byte_none index past =
      ap (λ rest. rows_fault bytes (at + index) (byte_rows rest)) (drop_all index wanted past) ∙ no_more bytes (at + index)

use Rattle.std.proofs.Common.{◌≡◌, ℕ, suc, ◌+◌, ◌-◌, ◌<◌, ◌≤◌, ◌==◌, true, false, nat_le, nat_lt, List, [], ◌∷◌, length, slice_get, Option, Some, refl, ap, ◌∙◌, cond, ⊎_elim, arith, if◌then◌else◌}
use Rattle.std.proofs.lemmas.Bool.{cases_lt, cases_order, eq-eqb, ne_eqb, lt-ltb, le-ltb, le-leb, lt-leb, and_from, and_left, and_right}
use Rattle.std.specs.Ordering.{nat_cmp, eq_by_cmp}
use Rattle.std.specs.FinMap as map
use Rattle.std.specs.Cmp.{nat_cmp_total}
use Rattle.machine_effect.specs.Memory.{Memory, byte_at, put, is_within}

-- which addresses are within a range
pub inside : (at count q : ℕ) → at ≤ q → q < at + count → is_within at count q ≡ true
inside at count q low high = and_from (nat_le at q) (nat_lt q (at + count)) (le-leb at q low) (lt-ltb q (at + count) high)

pub below : (at count q : ℕ) → q < at → is_within at count q ≡ false
below at count q low = and_left (nat_le at q) (nat_lt q (at + count)) (lt-leb at q low)

pub above : (at count q : ℕ) → at + count ≤ q → is_within at count q ≡ false
above at count q high = and_right (nat_le at q) (nat_lt q (at + count)) (le-ltb q (at + count) high)

-- what is written in two pieces, the second behind the first
pub in_pieces : (old now next written : ℕ → Option ℕ) (at i count : ℕ)
    → ((q : ℕ) → now q ≡ (if is_within at i q then written (q - at) else old q))
    → ((q : ℕ) → next q ≡ (if is_within (at + i) count q then written (q - at) else now q))
    → (q : ℕ) → next q ≡ (if is_within at (i + count) q then written (q - at) else old q)
in_pieces old now next written at i count first second q =
    ⊎_elim (λ low.
    let before : q < at + i = omega arith in
    second q ∙ rw (below (at + i) count q before, below at (i + count) q low) (first q ∙ rw (below at i q low) refl))
    (λ from. ⊎_elim (λ less.
    let high : q < at + (i + count) = omega arith in
    second q ∙ rw (below (at + i) count q less, inside at (i + count) q from high) (first q ∙ rw (inside at i q from less) refl))
    (λ more. ⊎_elim (λ short.
    let high : q < at + (i + count) = omega arith in
    second q ∙ rw (inside (at + i) count q more short, inside at (i + count) q from high) refl)
    (λ past.
    let high : at + (i + count) ≤ q = omega arith in
    second q ∙ rw (above (at + i) count q past, above at (i + count) q high) (first q ∙ rw (above at i q more) refl))
    (cases_lt q (at + i + count)))
    (cases_lt q (at + i)))
    (cases_lt q at)

pub eq_by_cmp-nat_cmp : (q at : ℕ) → eq_by_cmp nat_cmp q at ≡ (q == at)
eq_by_cmp-nat_cmp q at =
    ⊎_elim (λ same. let high : at ≤ q = omega arith in rw (le-ltb q at high, eq-eqb q at same) refl)
    (⊎_elim (λ less. let apart : q ≡ at → ⊥ = λ same. omega arith in rw (lt-ltb q at less, ne_eqb q at apart) refl)
    (λ more. let apart : q ≡ at → ⊥ = λ same. omega arith in let high : at ≤ q = omega arith in
    rw (le-ltb q at high, ne_eqb q at apart) refl))
    (cases_order q at)

-- what a memory has after one byte was set
pub set_byte : (memory : Memory) (at byte q : ℕ)
    → byte_at (map.insert memory at byte) q ≡ (if q == at then Some byte else byte_at memory q)
set_byte memory at byte q =
    map.get-insert nat_cmp_total memory at byte q ∙ ap (λ here. cond here (Some byte) (byte_at memory q)) (eq_by_cmp-nat_cmp q at)

put_behind : (count : ℕ) (memory : Memory) (at q byte : ℕ) (bytes : List ℕ)
    → (if is_within (at + 1) count q then slice_get bytes (q - (at + 1)) else byte_at (map.insert memory at byte) q)
    ≡ (if is_within at (suc count) q then slice_get (byte ∷ bytes) (q - at) else byte_at memory q)
put_behind count memory at q byte bytes =
    ⊎_elim (λ same.
    let low : q < at + 1 = omega arith in
    let from : at ≤ q = omega arith in
    let high : q < at + suc count = omega arith in
    let place : q - at ≡ 0 = omega arith in
    rw (below (at + 1) count q low, inside at (suc count) q from high, set_byte memory at byte q, eq-eqb q at same, place) refl)
    (⊎_elim (λ less.
    let low : q < at + 1 = omega arith in
    let apart : q ≡ at → ⊥ = λ same. omega arith in
    rw (below (at + 1) count q low, below at (suc count) q less, set_byte memory at byte q, ne_eqb q at apart) refl)
    (λ more.
    let low : at + 1 ≤ q = omega arith in
    let from : at ≤ q = omega arith in
    let apart : q ≡ at → ⊥ = λ same. omega arith in
    let place : q - at ≡ suc (q - (at + 1)) = omega arith in
    ⊎_elim (λ short.
    let high : q < at + suc count = omega arith in
    rw (inside (at + 1) count q low short, inside at (suc count) q from high, place) refl)
    (λ past.
    let high : at + suc count ≤ q = omega arith in
    rw (above (at + 1) count q past, above at (suc count) q high, set_byte memory at byte q, ne_eqb q at apart) refl)
    (cases_lt q (at + 1 + count))))
    (cases_order q at)

-- what a memory has after bytes were put
pub byte_at-put : (bytes : List ℕ) (memory : Memory) (at q : ℕ)
    → byte_at (put memory at bytes) q ≡ (if is_within at (length bytes) q then slice_get bytes (q - at) else byte_at memory q)
unfolding put
byte_at-put [] memory at q =
    ⊎_elim (λ low. rw (below at 0 q low) refl) (λ high. let up : at + 0 ≤ q = omega arith in rw (above at 0 q up) refl)
    (cases_lt q at)
byte_at-put (byte ∷ bytes) memory at q =
    byte_at-put bytes (map.insert memory at byte) (at + 1) q
    ∙ put_behind (length bytes) memory at q byte bytes

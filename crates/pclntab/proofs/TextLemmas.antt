use Rattle.std.proofs.Common.{◌≡◌, ℕ, zero, suc, ◌+◌, ◌-◌, ◌<◌, ◌≤◌, Bool, true, false, cond, not, nat_lt, List, [], ◌∷◌, length, take, drop, get_or, slice_index, inl, inr, Option, Some, None, IsTrue, refl, sym, ◌∙◌, ap, arith, length-drop}
use Rattle.std.specs.Option.{option_map, is_some}
use Rattle.std.specs.List.{prefix_len, position}
use Rattle.std.proofs.lemmas.Bool.{lt-ltb, cases_lt}
use Rattle.std.proofs.lemmas.List.{get_or-drop}
use Rattle.std.proofs.lemmas.List.Quantifiers.{position-Some}
use Rattle.memchr.specs.Find.{IsLastByte, is_byte}
use Rattle.pclntab.specs.Texts.{is_zero, text_in, ends_at}

some_map : {A B : Type 0} (f : A → B) (o : Option A) → is_some (option_map f o) ≡ is_some o
some_map f None = refl
some_map f (Some x) = refl

some_is : (o : Option ℕ) → is_some o ≡ true → (x : ℕ) × (o ≡ Some x)
some_is None is = cc
some_is (Some x) is = (x, refl)

-- a text ends where a zero byte stands in it
ends_in : (bytes : List ℕ) → is_some (text_in bytes) ≡ is_some (position is_zero bytes)
unfolding text_in
ends_in bytes = some_map (λ length. take length bytes) (position is_zero bytes)

-- a first element that fails lies no further than any that does
stops : (test : ℕ → Bool) (xs : List ℕ) (i : ℕ)
    → i < length xs → test (get_or xs i 0) ≡ false → prefix_len test xs < length xs
stops test [] i inside fails = absurd (omega arith)
stops test (x ∷ xs) zero inside fails = rw fails (omega arith)
stops test (x ∷ xs) (suc i) inside fails =
    let later : prefix_len test xs < length xs = stops test xs i (omega arith) fails in
    elim (test x) as (λ passes. cond passes (1 + prefix_len test xs) 0 < suc (length xs)) [
      | true ↦ omega arith
      | false ↦ omega arith
    ]

position_there : (xs : List ℕ) (i : ℕ)
    → i < length xs → is_zero (get_or xs i 0) ≡ true → is_some (position is_zero xs) ≡ true
position_there xs i inside here =
    let fails : not (is_zero (get_or xs i 0)) ≡ false = ap not here in
    let within : nat_lt (prefix_len (λ x. not (is_zero x)) xs) (length xs) ≡ true
    = lt-ltb _ _ (stops (λ x. not (is_zero x)) xs i inside fails) in
    rw within refl

-- a text ends where a zero byte stands behind its beginning
ends_before : (bytes : List ℕ) (at last : ℕ)
    → at ≤ last → last < length bytes → is_zero (slice_index bytes last) ≡ true → IsTrue (ends_at bytes at)
ends_before bytes at last before within here =
    let inside : last - at < length (drop at bytes) = omega (arith, length-drop at bytes) in
    let place : at + (last - at) ≡ last = omega arith in
    let there : is_zero (get_or (drop at bytes) (last - at) 0) ≡ true
    = rw (get_or-drop at bytes (last - at) 0, place) here in
    ends_in (drop at bytes) ∙ position_there (drop at bytes) (last - at) inside there

-- and nowhere else
zero_behind : (bytes : List ℕ) (at : ℕ) → IsTrue (ends_at bytes at)
    → (place : ℕ) × (at ≤ place) × (place < length bytes) × (is_zero (slice_index bytes place) ≡ true)
zero_behind bytes at ends =
    let found = some_is (position is_zero (drop at bytes)) (sym (ends_in (drop at bytes)) ∙ ends) in
    let facts = position-Some is_zero (drop at bytes) found.0 0 found.1 in
    let inside : found.0 < length (drop at bytes) = facts.0 in
    let here : is_zero (slice_index bytes (at + found.0)) ≡ true
    = rw (get_or-drop at bytes found.0 0) at facts.1 in
    (at + found.0, omega arith, omega (arith, length-drop at bytes), here)

-- the last zero byte tells whether a text ends
pub ends_till : (bytes : List ℕ) (at last : ℕ) → IsLastByte (is_byte 0) bytes (Some last)
    → (at ≤ last → IsTrue (ends_at bytes at)) × (IsTrue (ends_at bytes at) → at ≤ last)
ends_till bytes at last is = (
  λ before. ends_before bytes at last before is.0.high is.1,
  λ ends. elim (cases_lt last at) [
    | inl past ↦
        let found = zero_behind bytes at ends in
        absurd (is.0.after found.0 (omega arith) found.2 found.3)
    | inr before ↦ before
  ],
)

pub never_ends : (bytes : List ℕ) (at : ℕ) → IsLastByte (is_byte 0) bytes None → IsTrue (ends_at bytes at) → ⊥
never_ends bytes at nowhere ends =
    let found = zero_behind bytes at ends in
    nowhere found.0 (omega arith) found.2 found.3

-- Lines of a text that is cut at a newline.
use Rattle.std.proofs.Common.{◌≡◌, ℕ, zero, suc, true, false, inl, inr, ◌==◌, ◌+◌, ◌-◌, ◌<◌, List, [], ◌∷◌, length, take, drop, get_or, refl, sym, ap, ◌∙◌, arith, add-one, length-drop}
use Rattle.std.proofs.lemmas.Bool.{false_from_ne_true, cases_lt, ne_eqb}
use Rattle.std.proofs.lemmas.List.{get_or-drop, drop_all}
use Rattle.memchr.specs.Find.{Nowhere, NoneBefore, Passes, is_byte}
use Rattle.machine_dump.specs.Lines.{is_newline, lines_of, is_ended}

-- no newline stands before a place
abbrev pub NoneUpTo : List ℕ → ℕ → Type 0
NoneUpTo bytes place = (k : ℕ) → k < place → is_newline (get_or bytes k 0) ≡ false

-- the first line goes up to the first newline
pub first_line : (bytes : List ℕ) (place : ℕ) → place < length bytes → NoneUpTo bytes place
    → is_newline (get_or bytes place 0) ≡ true
    → lines_of bytes ≡ take place bytes ∷ lines_of (drop (suc place) bytes)
unfolding lines_of
first_line [] place inside before here = absurd (omega arith)
first_line (byte ∷ bytes) zero inside before here = rw here refl
first_line (byte ∷ bytes) (suc place) inside before here =
    let other : is_newline byte ≡ false = before 0 (omega arith) in
    let rest : lines_of bytes ≡ take place bytes ∷ lines_of (drop (suc place) bytes)
    = first_line bytes place (omega arith) (λ k below. before (suc k) (omega arith)) here in
    rw (other, rest) refl

-- without a newline there is no line
pub no_lines : (bytes : List ℕ) → NoneUpTo bytes (length bytes) → lines_of bytes ≡ []
unfolding lines_of
no_lines [] none = refl
no_lines (byte ∷ bytes) none =
    let other : is_newline byte ≡ false = none 0 (omega arith) in
    let rest : lines_of bytes ≡ [] = no_lines bytes (λ k below. none (suc k) (omega arith)) in
    rw (other, rest) refl

-- the last byte tells whether the last line is ended
pub ended_last : (bytes : List ℕ) → 0 < length bytes → is_ended bytes ≡ is_newline (get_or bytes (length bytes - 1) 0)
unfolding is_ended
ended_last [] some = absurd (omega arith)
ended_last (byte ∷ bytes) some =
    let more : (length (byte ∷ bytes) == 0) ≡ false = ne_eqb (length (byte ∷ bytes)) 0 (λ is. omega (arith, is)) in
    rw more refl

pub ended_none : is_ended [] ≡ true
unfolding is_ended
ended_none = refl

pub ended_drop : (bytes : List ℕ) (place : ℕ) → place < length bytes → is_ended (drop place bytes) ≡ is_ended bytes
ended_drop bytes place inside =
    let count : length (drop place bytes) ≡ length bytes - place = length-drop place bytes in
    let last : place + (length (drop place bytes) - 1) ≡ length bytes - 1 = omega (arith, count) in
    ended_last (drop place bytes) (omega (arith, count))
    ∙ ap is_newline (get_or-drop place bytes (length (drop place bytes) - 1) 0 ∙ ap (λ k. get_or bytes k 0) last)
    ∙ sym (ended_last bytes (omega arith))

-- behind a newline
pub ended_behind : (bytes : List ℕ) (place : ℕ) → place < length bytes → is_newline (get_or bytes place 0) ≡ true
    → is_ended (drop (place + 1) bytes) ≡ is_ended bytes
ended_behind bytes place inside here =
    elim (cases_lt (place + 1) (length bytes)) [
      | inl more ↦ ended_drop bytes (place + 1) more
      | inr all ↦
          let last : length bytes - 1 ≡ place = omega arith in
          ap is_ended (drop_all (place + 1) bytes all) ∙ ended_none
          ∙ sym (ended_last bytes (omega arith) ∙ ap (λ k. is_newline (get_or bytes k 0)) last ∙ here)
    ]

pub never_ended : (bytes : List ℕ) → NoneUpTo bytes (length bytes) → is_ended bytes ≡ (length bytes == 0)
never_ended [] none = ended_none
never_ended (byte ∷ bytes) none =
    let last : length (byte ∷ bytes) - 1 ≡ length bytes = omega arith in
    ended_last (byte ∷ bytes) (omega arith) ∙ ap (λ k. is_newline (get_or (byte ∷ bytes) k 0)) last ∙ none (length bytes) (omega arith)
    ∙ sym (ne_eqb (length (byte ∷ bytes)) 0 (λ is. omega (arith, is)))

-- what a search for a newline finds
pub nowhere : (bytes : List ℕ) (place : ℕ) → Nowhere (Passes (is_byte 10) bytes) 0 place → NoneUpTo bytes place
nowhere bytes place none k below = false_from_ne_true (is_newline (get_or bytes k 0)) (none k (omega arith) below)

pub split_here : (bytes : List ℕ) (place : ℕ) → NoneBefore (Passes (is_byte 10) bytes) 0 (length bytes) place → Passes (is_byte 10) bytes place
    → (lines_of bytes ≡ take place bytes ∷ lines_of (drop (place + 1) bytes)) × (is_ended (drop (place + 1) bytes) ≡ is_ended bytes)
split_here bytes place none here =
    let inside : place < length bytes = none.high in (
      first_line bytes place inside (nowhere bytes place none.before) here ∙ ap (λ k. take place bytes ∷ lines_of (drop k bytes)) (sym (add-one place)),
      ended_behind bytes place inside here,
    )

pub split_none : (bytes : List ℕ) → Nowhere (Passes (is_byte 10) bytes) 0 (length bytes)
    → (lines_of bytes ≡ []) × (is_ended bytes ≡ (length bytes == 0))
split_none bytes none =
    (no_lines bytes (nowhere bytes (length bytes) none), never_ended bytes (nowhere bytes (length bytes) none))

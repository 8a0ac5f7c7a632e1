-- A run of characters that can stand in a word is a run by itself, without what stands behind it.
use Rattle.std.proofs.Common.{◌≡◌, ℕ, zero, suc, ◌+◌, ◌-◌, ◌<◌, ◌≤◌, ◌==◌, Bool, true, false, ◌&&◌, ◌||◌, nat_eq, nat_lt, List, [], ◌∷◌, length, take, get_or, inl, inr, lit<, IsTrue, refl, arith, if◌then◌else◌}
use Rattle.std.proofs.Math.Seq.{take-nil}
use Rattle.std.proofs.Math.Bool.{or-true}
use Rattle.std.proofs.lemmas.Bool.{cases_Bool, cases_lt, lt-ltb, eqb-true}
use Rattle.std.proofs.lemmas.List.{get_or-take}
use Rattle.std.proofs.Math.ListN.{get_or-eq_default}
use Rattle.asm_lex.specs.Characters.{is_letter, is_ascii_digit, first, begins}
use Rattle.asm_lex.specs.Words.{is_middle_dot, is_division_slash, char_len, run_end, run_len}

-- how long a character is, by the tests on it
abbrev len_by : Bool → Bool → Bool → ℕ
len_by ascii dot slash = if ascii then 1 else (if dot then 2 else (if slash then 3 else 0))

-- a character keeps its length where all of its bytes are kept
len_kept : (ascii dot slash dot' slash' : Bool) (len : ℕ)
    → (0 < len → dot' ≡ dot) → (1 < len → slash' ≡ slash)
    → 0 < len_by ascii dot slash → len_by ascii dot slash ≤ suc len → len_by ascii dot' slash' ≡ len_by ascii dot slash
len_kept true dot slash dot' slash' len one two some fits = refl
len_kept false true slash dot' slash' len one two some fits =
    let same : dot' ≡ true = one (omega arith) in rw same refl
len_kept false false true dot' slash' len one two some fits =
    let first : dot' ≡ false = one (omega arith) in
    let same : slash' ≡ true = two (omega arith) in rw (first, same) refl
len_kept false false false dot' slash' len one two some fits = absurd (omega arith)

char_kept : (byte : ℕ) (bytes : List ℕ) (len : ℕ)
    → 0 < char_len (byte ∷ bytes) → char_len (byte ∷ bytes) ≤ suc len
    → char_len (byte ∷ take len bytes) ≡ char_len (byte ∷ bytes)
unfolding char_len
char_kept byte bytes len some fits =
    len_kept (is_letter byte || is_ascii_digit byte) (is_middle_dot (byte ∷ bytes)) (is_division_slash (byte ∷ bytes))
    (is_middle_dot (byte ∷ take len bytes)) (is_division_slash (byte ∷ take len bytes)) len
    (λ one. rw (get_or-take len bytes 0 0 one) refl)
    (λ two. let one : 0 < len = omega arith in rw (get_or-take len bytes 0 0 one, get_or-take len bytes 1 0 two) refl)
    some fits

second : (a b : Bool) → (a && b) ≡ true → b ≡ true
second true b is = is
second false b is = cc

-- a byte other than 0 is there
there : (bytes : List ℕ) (i value : ℕ) → nat_eq (get_or bytes i 0) value ≡ true → 0 < value → i < length bytes
there bytes i value is some =
    let same : get_or bytes i 0 ≡ value = eqb-true _ _ is in
    elim (cases_lt i (length bytes)) [
      | inl inside ↦ inside
      | inr past ↦ let none : get_or bytes i 0 ≡ 0 = get_or-eq_default bytes 0 past in absurd (omega arith)
    ]

len_fits : (ascii dot slash : Bool) (len : ℕ) → 1 ≤ len → (dot ≡ true → 2 ≤ len) → (slash ≡ true → 3 ≤ len)
    → len_by ascii dot slash ≤ len
len_fits true dot slash len one two three = one
len_fits false true slash len one two three = two refl
len_fits false false true len one two three = three refl
len_fits false false false len one two three = omega arith

char_fits : (byte : ℕ) (bytes : List ℕ) → char_len (byte ∷ bytes) ≤ suc (length bytes)
unfolding char_len
char_fits byte bytes =
    len_fits (is_letter byte || is_ascii_digit byte) (is_middle_dot (byte ∷ bytes)) (is_division_slash (byte ∷ bytes)) (suc (length bytes))
    (omega arith)
    (λ dot. let inside : 0 < length bytes = there bytes 0 0xB7 (second (byte == 0xC2) (get_or bytes 0 0 == 0xB7) dot) (lit< tt) in omega arith)
    (λ slash. let inside : 1 < length bytes = there bytes 1 0x95 (second (begins 0xE2 0x88 (byte ∷ bytes)) (get_or bytes 1 0 == 0x95) slash) (lit< tt) in omega arith)

-- what a byte of a run leads to
abbrev step : Bool → Bool → ℕ → ℕ → ℕ → ℕ
step within none at next other = if within then next else (if none then at else other)

step_to : (P : ℕ → Type 0) (within none : Bool) (at next other : ℕ) → P next → P at → P other → P (step within none at next other)
step_to P true none at next other one two three = one
step_to P false true at next other one two three = two
step_to P false false at next other one two three = three

-- a run doesn't go past the bytes
pub run_bound : (at skip : ℕ) (bytes : List ℕ) → (at ≤ run_end at skip bytes) × (run_end at skip bytes ≤ at + length bytes)
unfolding run_end
run_bound at skip [] = (omega arith, omega arith)
run_bound at skip (byte ∷ bytes) =
    let later : (more : ℕ) → (at ≤ run_end (at + 1) more bytes) × (run_end (at + 1) more bytes ≤ at + suc (length bytes))
    = λ more. (let bounds : (at + 1 ≤ run_end (at + 1) more bytes) × (run_end (at + 1) more bytes ≤ at + 1 + length bytes) = run_bound (at + 1) more bytes in (omega arith, omega arith)) in
    step_to (λ end. (at ≤ end) × (end ≤ at + suc (length bytes))) (nat_lt 0 skip) (char_len (byte ∷ bytes) == 0) at
    (run_end (at + 1) (skip - 1) bytes) (run_end (at + 1) (char_len (byte ∷ bytes) - 1) bytes)
    (later (skip - 1)) (omega arith, omega arith) (later (char_len (byte ∷ bytes) - 1))

-- a character that began is in the run
run_past : (at skip : ℕ) (bytes : List ℕ) → skip ≤ length bytes → at + skip ≤ run_end at skip bytes
unfolding run_end
run_past at skip [] fits = omega arith
run_past at zero (byte ∷ bytes) fits =
    let bounds = run_bound at 0 (byte ∷ bytes) in omega (arith, bounds.0)
run_past at (suc skip) (byte ∷ bytes) fits =
    let within : nat_lt 0 (suc skip) ≡ true = lt-ltb _ _ (omega arith) in
    let less : suc skip - 1 ≡ skip = omega arith in
    let more : at + 1 + skip ≤ run_end (at + 1) skip bytes = run_past (at + 1) skip bytes (omega arith) in
    rw (within, less) (omega arith)

positive_from : (n : ℕ) → nat_eq n 0 ≡ false → 0 < n
positive_from zero is = cc
positive_from (suc n) is = omega arith

run_taken_at : (at skip : ℕ) (bytes : List ℕ) (len end : ℕ)
    → end ≡ at + len → run_end at skip bytes ≡ end → run_end at skip (take len bytes) ≡ end
unfolding run_end
run_taken_at at skip [] len end sum is = rw (take-nil {A = ℕ} len) is
run_taken_at at skip (byte ∷ bytes) zero end sum is = omega arith
run_taken_at at skip (byte ∷ bytes) (suc len) end sum is =
    let later : (more : ℕ) → run_end (at + 1) more bytes ≡ end → run_end (at + 1) more (take len bytes) ≡ end
    = λ more next. run_taken_at (at + 1) more bytes len end (omega arith) next in
    let size : ℕ = char_len (byte ∷ bytes) in
    elim (cases_Bool (nat_lt 0 skip)) [
      | inl within ↦ rw within (later (skip - 1) (rw within at is))
      | inr without ↦ elim (cases_Bool (nat_eq size 0)) [
        | inl none ↦ let stops : at ≡ end = rw (without, none) at is in absurd (omega arith)
        | inr some ↦
            let goes : run_end (at + 1) (size - 1) bytes ≡ end = rw (without, some) at is in
            let fits : size ≤ suc (length bytes) = char_fits byte bytes in
            let past : at + 1 + (size - 1) ≤ run_end (at + 1) (size - 1) bytes = run_past (at + 1) (size - 1) bytes (omega arith) in
            let positive : 0 < size = positive_from size some in
            let kept : char_len (byte ∷ take len bytes) ≡ size = char_kept byte bytes len positive (omega arith) in
            rw (without, kept, some) (later (size - 1) goes)
      ]
    ]

pub run_taken : (bytes : List ℕ) → run_len (take (run_len bytes) bytes) ≡ run_len bytes
run_taken bytes = run_taken_at 0 0 bytes (run_len bytes) (run_len bytes) (omega arith) refl

-- a digit can stand in a word
pub digit_runs : (bytes : List ℕ) → IsTrue (is_ascii_digit (first bytes)) → 0 < run_len bytes
unfolding run_end char_len
digit_runs [] digit = cc
digit_runs (byte ∷ bytes) digit =
    let test : (is_letter byte || is_ascii_digit byte) ≡ true = rw digit (or-true (is_letter byte)) in
    let later = run_bound 1 0 bytes in
    rw test (omega (arith, later.0))

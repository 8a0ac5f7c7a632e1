use Rattle.std.proofs.Common.{◌≡◌, ◌≢◌, ℕ, ◌+◌, ◌-◌, ◌<◌, ◌≤◌, true, false, nat_lt, nat_eq, List, [], ◌∷◌, length, drop, get_or, refl, arith, add-one, drop-cons, if◌then◌else◌}
use Rattle.std.proofs.lemmas.Bool.{lt-ltb, ne_eqb}
use Rattle.asm_lex.specs.Words.{char_len, run_end}
use Rattle.asm_lex.specs.Texts.{escape_len, are_escapes}
use Rattle.asm_lex.specs.Comments.{line_end, closes, comment_end}

-- what is left begins with the byte at its place
front : (i : ℕ) (bytes : List ℕ) → i < length bytes → drop i bytes ≡ get_or bytes i 0 ∷ drop (i + 1) bytes
front i bytes inside = rw add-one (drop-cons bytes i 0 inside)

-- past a byte at which no comment closes
pub comment_next : (i : ℕ) (bytes : List ℕ) → i < length bytes → closes (drop i bytes) ≡ false
    → comment_end (i + 1) (drop (i + 1) bytes) ≡ comment_end i (drop i bytes)
unfolding comment_end
comment_next i bytes inside isnt =
    let still : closes (get_or bytes i 0 ∷ drop (i + 1) bytes) ≡ false = rw (front i bytes inside) at isnt in
    rw (front i bytes inside, still) refl

-- within a character
pub run_within : (i skip : ℕ) (bytes : List ℕ) → i < length bytes → 0 < skip
    → run_end (i + 1) (skip - 1) (drop (i + 1) bytes) ≡ run_end i skip (drop i bytes)
unfolding run_end
run_within i skip bytes inside more =
    let test : nat_lt 0 skip ≡ true = lt-ltb _ _ more in
    rw (front i bytes inside, test) refl

-- at a character
pub run_on : (i len : ℕ) (bytes : List ℕ) → i < length bytes → char_len (drop i bytes) ≡ len → nat_eq len 0 ≡ false
    → run_end (i + 1) (len - 1) (drop (i + 1) bytes) ≡ run_end i 0 (drop i bytes)
unfolding run_end
run_on i len bytes inside is some =
    let here : char_len (get_or bytes i 0 ∷ drop (i + 1) bytes) ≡ len = rw (front i bytes inside) at is in
    rw (front i bytes inside, here, some) refl

-- at what can't stand in a word
pub run_stops : (i : ℕ) (bytes : List ℕ) → i < length bytes → char_len (drop i bytes) ≡ 0
    → run_end i 0 (drop i bytes) ≡ i
unfolding run_end
run_stops i bytes inside none =
    let here : char_len (get_or bytes i 0 ∷ drop (i + 1) bytes) ≡ 0 = rw (front i bytes inside) at none in
    rw (front i bytes inside, here) refl

-- within an escape
pub escapes_within : (i skip : ℕ) (bytes : List ℕ) → i < length bytes → 0 < skip
    → are_escapes (skip - 1) (drop (i + 1) bytes) ≡ are_escapes skip (drop i bytes)
unfolding are_escapes
escapes_within i skip bytes inside more =
    let test : nat_lt 0 skip ≡ true = lt-ltb _ _ more in
    rw (front i bytes inside, test) refl

-- at a backslash that begins an escape
pub escapes_on : (i len : ℕ) (bytes : List ℕ) → i < length bytes → get_or bytes i 0 ≡ 92
    → escape_len (drop (i + 1) bytes) ≡ len → nat_eq len 0 ≡ false
    → are_escapes len (drop (i + 1) bytes) ≡ are_escapes 0 (drop i bytes)
unfolding are_escapes
escapes_on i len bytes inside backslash is some = rw (front i bytes inside, backslash, is, some) refl

-- at another byte
pub escapes_past : (i : ℕ) (bytes : List ℕ) → i < length bytes → nat_eq (get_or bytes i 0) 92 ≡ false
    → are_escapes 0 (drop (i + 1) bytes) ≡ are_escapes 0 (drop i bytes)
unfolding are_escapes
escapes_past i bytes inside other = rw (front i bytes inside, other) refl

line_bound : (at : ℕ) (bytes : List ℕ) → at ≤ line_end at bytes
unfolding line_end
line_bound at [] = omega arith
line_bound at (byte ∷ bytes) =
    let later : at + 1 ≤ line_end (at + 1) bytes = line_bound (at + 1) bytes in
    elim (nat_eq byte 10) as (λ ends. at ≤ (if ends then at else line_end (at + 1) bytes)) [
      | true ↦ omega arith
      | false ↦ omega arith
    ]

-- a line whose end doesn't stand at once has a byte
pub line_goes_on : (bytes : List ℕ) → 0 < length bytes → get_or bytes 0 0 ≢ 10 → 0 < line_end 0 bytes
unfolding line_end
line_goes_on [] some other = absurd (omega arith)
line_goes_on (byte ∷ bytes) some other =
    let test : nat_eq byte 10 ≡ false = ne_eqb byte 10 other in
    let later : 0 + 1 ≤ line_end (0 + 1) bytes = line_bound (0 + 1) bytes in
    rw test (omega arith)

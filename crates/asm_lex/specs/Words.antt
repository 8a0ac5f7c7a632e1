-- Words: an ASCII letter, `_`, U+00B7 or U+2215 (which stand for `.` and `/` in a name), and then as many of
-- these and of digits as follow.
use Rattle.std.specs.Prelude.{ℕ, Bool, List, [], ◌∷◌, ◌+◌, ◌-◌, ◌==◌, ◌&&◌, ◌||◌, not, nat_lt, length, slice_index, if◌then◌else◌}
use Rattle.asm_lex.specs.Characters.{is_ascii_digit, is_letter, first, begins}

-- U+00B7 and U+2215 in UTF-8
abbrev pub is_middle_dot : List ℕ → Bool
is_middle_dot bytes = begins 0xC2 0xB7 bytes

abbrev pub is_division_slash : List ℕ → Bool
is_division_slash bytes = begins 0xE2 0x88 bytes && slice_index bytes 2 == 0x95

-- how many bytes the character at the front takes where it can stand in a word; 0 where it can't
unfoldable pub char_len : List ℕ → ℕ
char_len bytes =
    if is_letter (first bytes) || is_ascii_digit (first bytes) then 1
    else (if is_middle_dot bytes then 2
    else (if is_division_slash bytes then 3 else 0))

-- where the run of such characters ends, counted from a place `at` bytes before these; the first `skip` of
-- these belong to a character that was seen
unfoldable pub run_end : ℕ → ℕ → List ℕ → ℕ
run_end at skip [] = at
run_end at skip (byte ∷ bytes) =
    if nat_lt 0 skip then run_end (at + 1) (skip - 1) bytes
    else (if char_len (byte ∷ bytes) == 0 then at
    else run_end (at + 1) (char_len (byte ∷ bytes) - 1) bytes)

-- how many bytes the run at the front takes
abbrev pub run_len : List ℕ → ℕ
run_len bytes = run_end 0 0 bytes

-- the whole text is one word
abbrev pub is_word : List ℕ → Bool
is_word text = nat_lt 0 (length text) && not (is_ascii_digit (first text)) && run_len text == length text

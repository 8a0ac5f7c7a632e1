-- What a text stands for: the bytes between its quotes, with `\n` as a newline, `\t` as a tab, `\x` as the byte of its two
-- hexadecimal digits, and any other byte behind a backslash as itself.
use Rattle.std.specs.Prelude.{ℕ, zero, suc, Bool, List, [], ◌∷◌, ◌+◌, ◌-◌, ◌*◌, ◌==◌, ◌&&◌, nat_lt, nat_le, length, take, drop, slice_index, if◌then◌else◌}
use Rattle.std.specs.Char.{digit_value}
use Rattle.goasm_base.specs.Ascii.{backslash, newline, tab}

-- what stands between the quotes
abbrev pub inside : List ℕ → List ℕ
inside text = take (length text - 2) (drop 1 text)

abbrev pub hex_digit : ℕ → ℕ
hex_digit glyph = if nat_lt (digit_value glyph) 16 then digit_value glyph else 0

abbrev pub hex_byte : ℕ → ℕ → ℕ
hex_byte high low = 16 * hex_digit high + hex_digit low

abbrev pub escapes : List ℕ → Bool
escapes text = nat_le 2 (length text) && slice_index text 0 == backslash

-- `\x` and what can be its digits
abbrev pub has_digits : List ℕ → Bool
has_digits text = nat_le 4 (length text) && slice_index text 1 == 120

-- how many bytes the byte or the escape at the front takes
unfoldable pub first_len : List ℕ → ℕ
first_len text = if escapes text then (if has_digits text then 4 else 2) else 1

-- what it stands for
unfoldable pub first_byte : List ℕ → ℕ
first_byte text =
    if escapes text then
    (if slice_index text 1 == 110 then newline
    else (if slice_index text 1 == 116 then tab
    else (if has_digits text then hex_byte (slice_index text 2) (slice_index text 3)
    else slice_index text 1)))
    else slice_index text 0

-- the first `skip` bytes belong to an escape that was read
unfoldable pub unescaped : ℕ → List ℕ → List ℕ
unescaped skip [] = []
unescaped zero (byte ∷ bytes) = first_byte (byte ∷ bytes) ∷ unescaped (first_len (byte ∷ bytes) - 1) bytes
unescaped (suc skip) (byte ∷ bytes) = unescaped skip bytes

unfoldable pub bytes_of : List ℕ → List ℕ
bytes_of text = unescaped 0 (inside text)

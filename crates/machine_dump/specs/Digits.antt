-- Numbers and bytes in small hexadecimal digits.
use Rattle.std.specs.Prelude.{ℕ, Bool, List, [], ◌∷◌, ◌+◌, ◌-◌, ◌*◌, ◌&&◌, ◌||◌, ◌==◌, nat_le, length, Option, Some, None, if◌then◌else◌}
use Rattle.std.specs.List.{list_all}
use Rattle.goasm_base.specs.Ascii.{is_ascii_digit}

-- a letter from a to f
abbrev pub is_small_letter : ℕ → Bool
is_small_letter byte = nat_le 97 byte && nat_le byte 102

-- a digit from 0 to 9 or from a to f
abbrev pub is_small_hex : ℕ → Bool
is_small_hex byte = is_ascii_digit byte || is_small_letter byte

abbrev pub are_small_hex : List ℕ → Bool
are_small_hex text = list_all is_small_hex text

-- what such a digit counts
abbrev pub digit_of : ℕ → ℕ
digit_of byte = if is_ascii_digit byte then byte - 48 else (if is_small_letter byte then byte - 87 else 0)

-- the number that digits stand for after a number that stands before them, the highest digit first
abbrev pub hex_after : ℕ → List ℕ → ℕ
hex_after before [] = before
hex_after before (glyph ∷ glyphs) = hex_after (16 * before + digit_of glyph) glyphs

-- the number that sixteen digits spell; no other text spells one
unfoldable pub word_of : List ℕ → Option ℕ
word_of text = if length text == 16 && are_small_hex text then Some (hex_after 0 text) else None

-- the bytes that digits spell, two a byte, the higher one first
unfoldable pub bytes_of : List ℕ → List ℕ
bytes_of [] = []
bytes_of (glyph ∷ []) = []
bytes_of (high ∷ low ∷ glyphs) = (16 * digit_of high + digit_of low) ∷ bytes_of glyphs

-- The exact text of a number, and the numbers that a user may write.
use Rattle.std.specs.Prelude.{ℕ, zero, suc, ℤ, List, [], ◌∷◌, ◌++◌, ◌+◌, ◌*◌, ◌/◌, ◌%◌, ◌^◌, ◌&&◌, ◌==◌, nat_lt, nat_le, length, drop, slice_index, Option, Some, None, if◌then◌else◌}
use Rattle.std.specs.List.{list_all}
use Rattle.std.specs.Fmt.{signed_decimal}
use Rattle.std.specs.Char.{digit_char, digit_value, is_digit}

-- the last digits of a number in base 16, this many
unfoldable pub hex_digits : ℕ → ℕ → List ℕ
hex_digits zero value = []
hex_digits (suc count) value = hex_digits count (value / 16) ++ digit_char (value % 16) ∷ []

-- `0x` and sixteen small hexadecimal digits: how an address is shown
abbrev pub hex_text : ℕ → List ℕ
hex_text value = 48 ∷ 120 ∷ hex_digits 16 value

-- decimal digits, after a `-` where the number is negative
abbrev pub decimal_text : ℤ → List ℕ
decimal_text value = signed_decimal value

-- the number that digits stand for after a number that stands before them, the highest digit first
abbrev pub value_after : ℕ → ℕ → List ℕ → ℕ
value_after base before [] = before
value_after base before (glyph ∷ glyphs) = value_after base (base * before + digit_value glyph) glyphs

-- the number that one or more digits of a base spell, where it is below 2 ^ 64
abbrev pub numeral : ℕ → List ℕ → Option ℕ
numeral base digits =
    if nat_lt 0 (length digits) && list_all (λ glyph. is_digit glyph base) digits
    && nat_lt (value_after base 0 digits) (2 ^ 64)
    then Some (value_after base 0 digits) else None

-- the number that a text spells: decimal digits, or `0x` and 1 to 16 hexadecimal digits
unfoldable pub number_of : List ℕ → Option ℕ
number_of text =
    if nat_le 2 (length text) && slice_index text 0 == 48 && slice_index text 1 == 120
    then (if nat_le (length (drop 2 text)) 16 then numeral 16 (drop 2 text) else None)
    else numeral 10 text

-- Numbers: decimal digits, or `0x` and 1 to 16 hexadecimal digits, below 2 ^ 64.
use Rattle.std.specs.Prelude.{ℕ, Bool, List, ◌&&◌, ◌==◌, slice_index, Option, None, if◌then◌else◌}
use Rattle.goasm_base.specs.Numbers.{number_of}
use Rattle.asm_lex.specs.Characters.{is_ascii_digit, first}

-- a digit follows a first 0
abbrev pub has_leading_zero : List ℕ → Bool
has_leading_zero text = first text == 48 && is_ascii_digit (slice_index text 1)

-- the value that the text of a number has; `None` where it is none
unfoldable pub number_value : List ℕ → Option ℕ
number_value text = if has_leading_zero text then None else number_of text

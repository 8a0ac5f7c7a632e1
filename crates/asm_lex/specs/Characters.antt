-- The characters of a source, each by its byte.
pub use Rattle.goasm_base.specs.Ascii.{is_ascii_digit, is_ascii_alphabetic, is_ascii_hexdigit, tab, newline, carriage_return, space, quote, star, slash, semicolon, backslash, underscore}
use Rattle.std.specs.Prelude.{ℕ, Bool, List, ◌==◌, ◌&&◌, ◌||◌, slice_index}

abbrev pub is_space : ℕ → Bool
is_space byte = byte == space || byte == tab || byte == carriage_return

-- an ASCII letter or `_`
abbrev pub is_letter : ℕ → Bool
is_letter byte = is_ascii_alphabetic byte || byte == underscore

-- the first byte; 0 where there is none
abbrev pub first : List ℕ → ℕ
first bytes = slice_index bytes 0

-- the bytes begin with these two, of which neither is 0
abbrev pub begins : ℕ → ℕ → List ℕ → Bool
begins one two bytes = first bytes == one && slice_index bytes 1 == two

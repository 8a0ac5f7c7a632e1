-- What `outside` and `entry` lines may name, and where what lies outside an image may lie.
use Rattle.std.specs.Prelude.{ℕ, Bool, false, List, [], ◌∷◌, ◌%◌, ◌==◌, ◌&&◌, ◌||◌, nat_le}
use Rattle.std.specs.List.{list_all}
use Rattle.goasm_base.specs.Ascii.{is_ascii_alphabetic, is_ascii_digit, underscore, slash, dot}

-- a letter, `_` or `/`
abbrev pub opens_symbol : ℕ → Bool
opens_symbol byte = is_ascii_alphabetic byte || byte == underscore || byte == slash

-- one of these, a digit or `.`
abbrev pub continues_symbol : ℕ → Bool
continues_symbol byte = opens_symbol byte || is_ascii_digit byte || byte == dot

-- a name that a word of a source stands for: U+00B7 in the word is `.` in the name and U+2215 is `/`, and a name
-- that would begin with `.` begins with `main.`
unfoldable pub is_symbol : List ℕ → Bool
is_symbol [] = false
is_symbol (byte ∷ bytes) = opens_symbol byte && list_all continues_symbol bytes

-- a multiple of 4 from 0x1000 to 0x3FFFFC
abbrev pub is_outside_address : ℕ → Bool
is_outside_address at = at % 4 == 0 && nat_le 0x1000 at && nat_le at 0x3FFFFC

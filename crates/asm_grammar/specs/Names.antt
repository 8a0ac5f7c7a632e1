-- The name that a word of the source stands for: in it U+00B7 is `.` and U+2215 is `/`, and a name that then begins with
-- `.` is one of the package `main`.
use Rattle.std.specs.Prelude.{ℕ, Bool, not, List, [], ◌++◌, ◌==◌, ◌&&◌, ◌||◌, codes, filter_map, slice_index, Option, Some, None, IsTrue, if◌then◌else◌}
use Rattle.std.specs.List.{list_all}

-- The only characters of a word outside ASCII are U+00B7, whose bytes are C2 and B7, and U+2215, whose bytes are E2, 88
-- and 95: the last one stands for the whole character. No source has a zero byte, and no name either.
abbrev pub name_byte : ℕ → Option ℕ
name_byte byte =
    if byte == 0xB7 then Some 46
    else (if byte == 0x95 then Some 47
    else (if byte == 0 || byte == 0xC2 || byte == 0xE2 || byte == 0x88 then None
    else Some byte))

abbrev pub has_middle_dot : List ℕ → Bool
has_middle_dot word = slice_index word 0 == 0xC2 && slice_index word 1 == 0xB7

abbrev pub package_of : List ℕ → List ℕ
package_of word = if has_middle_dot word then codes "main" else []

unfoldable pub name_of : List ℕ → List ℕ
name_of word = package_of word ++ filter_map name_byte word

-- no byte of the name is zero, so that a zero byte can stand at its end
abbrev pub HasNoZero : List ℕ → Type 0
HasNoZero name = IsTrue (list_all (λ byte. not (byte == 0)) name)

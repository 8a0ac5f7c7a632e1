-- The words of a line's text. One or more spaces separate them, and may stand before the first and behind the
-- last; no other white space does.
use Rattle.std.specs.Prelude.{ℕ, Bool, List, ◌==◌, not, length, drop}
use Rattle.goasm_base.specs.Ascii.{space}
use Rattle.std.specs.List.{position_or_len, before_first, after_first}

abbrev pub is_space : ℕ → Bool
is_space byte = byte == space

abbrev pub is_glyph : ℕ → Bool
is_glyph byte = not (is_space byte)

-- the text from its first byte on that isn't a space
abbrev pub without_spaces : List ℕ → List ℕ
without_spaces text = drop (position_or_len is_glyph text) text

-- the first word; empty where there is none
unfoldable pub first_word : List ℕ → List ℕ
first_word text = before_first is_space (without_spaces text)

-- what stands behind the first word and the spaces that follow it
unfoldable pub behind_word : List ℕ → List ℕ
behind_word text = without_spaces (after_first is_space (without_spaces text))

abbrev pub is_empty : List ℕ → Bool
is_empty text = length text == 0

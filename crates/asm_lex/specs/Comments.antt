-- Comments: `//` and the rest of its line, or `/*` up to the next `*/`.
use Rattle.std.specs.Prelude.{ℕ, Bool, List, [], ◌∷◌, ◌+◌, ◌==◌, drop, Option, Some, None, if◌then◌else◌}
use Rattle.asm_lex.specs.Characters.{newline, star, slash, begins}

-- where the line ends, before its newline or at the end of all, counted from a place `at` bytes before these
unfoldable pub line_end : ℕ → List ℕ → ℕ
line_end at [] = at
line_end at (byte ∷ bytes) = if byte == newline then at else line_end (at + 1) bytes

-- how many bytes are left of the line
abbrev pub line_len : List ℕ → ℕ
line_len bytes = line_end 0 bytes

-- a comment's last two characters stand here
abbrev pub closes : List ℕ → Bool
closes bytes = begins star slash bytes

-- where a comment ends behind its `*/`, counted from a place `at` bytes before these bytes of it
unfoldable pub comment_end : ℕ → List ℕ → Option ℕ
comment_end at [] = None
comment_end at (byte ∷ bytes) = if closes (byte ∷ bytes) then Some (at + 2) else comment_end (at + 1) bytes

-- where the comment that begins with `/*` ends, counted from behind that; `None` where it is open
abbrev pub comment_closing : List ℕ → Option ℕ
comment_closing bytes = comment_end 0 (drop 2 bytes)

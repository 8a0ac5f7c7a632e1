-- Line numbers. They begin at 1, go up at each newline, and stop at 2 ^ 31 - 2.
use Rattle.std.specs.Prelude.{ℕ, List, [], ◌∷◌, ◌+◌, ◌==◌, nat_lt, if◌then◌else◌}
use Rattle.asm_lex.specs.Characters.{newline}
pub use Rattle.goasm_base.specs.Lines.{last_line}

abbrev pub next_line : ℕ → ℕ
next_line line = if nat_lt line last_line then line + 1 else line

-- the line on which stands what follows these bytes, of which the first stands on this line
unfoldable pub line_after : ℕ → List ℕ → ℕ
line_after line [] = line
line_after line (byte ∷ bytes) = line_after (if byte == newline then next_line line else line) bytes

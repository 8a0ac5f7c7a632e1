-- The lines of a text, each of which a newline ends.
use Rattle.std.specs.Prelude.{ℕ, Bool, List, [], ◌∷◌, ◌-◌, ◌==◌, ◌||◌, length, slice_index, slice_index_or, if◌then◌else◌}
use Rattle.goasm_base.specs.Ascii.{newline}

abbrev pub is_newline : ℕ → Bool
is_newline byte = byte == newline

-- one more byte at the beginning of the first line, if there is one
abbrev pub onto_line : ℕ → List (List ℕ) → List (List ℕ)
onto_line byte [] = []
onto_line byte (text ∷ texts) = (byte ∷ text) ∷ texts

-- the texts of the lines, without their newlines; what stands behind the last newline is no line
unfoldable pub lines_of : List ℕ → List (List ℕ)
lines_of [] = []
lines_of (byte ∷ bytes) = if is_newline byte then [] ∷ lines_of bytes else onto_line byte (lines_of bytes)

-- whether nothing stands behind the last newline
unfoldable pub is_ended : List ℕ → Bool
is_ended bytes = length bytes == 0 || is_newline (slice_index bytes (length bytes - 1))

-- the text of the line behind this many others; empty where there are no more
abbrev pub line_at : List (List ℕ) → ℕ → List ℕ
line_at texts index = slice_index_or texts index []

-- The texts of a file's lines, without their newlines.
use Rattle.std.specs.Prelude.{ℕ, Bool, List, [], ◌∷◌, ◌==◌, if◌then◌else◌}
use Rattle.std.specs.List.{onto_first}
use Rattle.goasm_base.specs.Ascii.{newline}

abbrev pub is_newline : ℕ → Bool
is_newline byte = byte == newline

-- each newline ends a line; the last line may lack it
unfoldable pub texts_of : List ℕ → List (List ℕ)
texts_of [] = []
texts_of (byte ∷ bytes) = if is_newline byte then [] ∷ texts_of bytes else onto_first byte (texts_of bytes)

-- Texts that end at their first zero byte.
use Rattle.std.specs.Prelude.{ℕ, Bool, List, ◌==◌, take, drop, position, Option, is_some}
use Rattle.std.specs.Option.{option_map}

abbrev pub is_zero : ℕ → Bool
is_zero byte = byte == 0

-- the bytes before the first zero byte; `None` where there is none
unfoldable pub text_in : List ℕ → Option (List ℕ)
text_in bytes = option_map (λ length. take length bytes) (position is_zero bytes)

-- the text at a place
abbrev pub text_at : List ℕ → ℕ → Option (List ℕ)
text_at bytes at = text_in (drop at bytes)

-- whether a zero byte ends the text at a place
abbrev pub ends_at : List ℕ → ℕ → Bool
ends_at bytes at = is_some (text_at bytes at)

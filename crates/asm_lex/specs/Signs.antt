-- Signs. The longest one is taken.
use Rattle.std.specs.Prelude.{ℕ, Bool, List, ◌==◌, ◌&&◌, ◌||◌, nat_lt, codes, length, if◌then◌else◌}
use Rattle.std.specs.List.{list_any}
use Rattle.asm_lex.specs.Characters.{first, begins}

-- `<<`, `>>`, `<>` or `->`
unfoldable pub is_long_sign : List ℕ → Bool
is_long_sign bytes = begins 60 60 bytes || begins 62 62 bytes || begins 60 62 bytes || begins 45 62 bytes

unfoldable pub is_short_sign : ℕ → Bool
is_short_sign byte = list_any (λ sign. sign == byte) (codes "#$+-*/%&|^~(),:.")

-- how many bytes the sign at the front takes; 0 where none stands there
unfoldable pub sign_len : List ℕ → ℕ
sign_len bytes = if is_long_sign bytes then 2 else (if is_short_sign (first bytes) then 1 else 0)

-- the whole text is one sign
abbrev pub is_sign : List ℕ → Bool
is_sign text = nat_lt 0 (length text) && sign_len text == length text

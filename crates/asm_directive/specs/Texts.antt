-- What a text stands for: the bytes between its quotes, each escape in it for one byte.
use Rattle.std.specs.Prelude.{ℕ, List, [], ◌∷◌, ◌+◌, ◌-◌, ◌*◌, ◌==◌, nat_lt, length, take, drop, slice_index, if◌then◌else◌}
use Rattle.std.specs.Char.{digit_value}
use Rattle.goasm_base.specs.Ascii.{backslash}
use Rattle.asm_lex.specs.declared.token.Token.{Token}
use Rattle.asm_lex.specs.Characters.{first}

-- the value of a hexadecimal digit; 0 for any other byte
abbrev pub hex_value : ℕ → ℕ
hex_value byte = if nat_lt (digit_value byte) 16 then digit_value byte else 0

-- the byte that an escape stands for, behind its backslash. The letters are n, t and x
unfoldable pub escape_value : List ℕ → ℕ
escape_value bytes =
    if first bytes == 110 then 10
    else (if first bytes == 116 then 9
    else (if first bytes == 120 then 16 * hex_value (slice_index bytes 1) + hex_value (slice_index bytes 2)
    else first bytes))

-- how many bytes it takes there
unfoldable pub escape_len : List ℕ → ℕ
escape_len bytes = if first bytes == 120 then 3 else 1

-- the first `skip` bytes belong to an escape that was read
unfoldable pub values_from : ℕ → List ℕ → List ℕ
values_from skip [] = []
values_from skip (byte ∷ bytes) =
    if nat_lt 0 skip then values_from (skip - 1) bytes
    else (if byte == backslash then escape_value bytes ∷ values_from (escape_len bytes) bytes
    else byte ∷ values_from 0 bytes)

-- what a text stands for
unfoldable pub value_of : Token → List ℕ
value_of token = values_from 0 (take (length token.text - 2) (drop 1 token.text))

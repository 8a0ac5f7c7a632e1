-- Texts: on one line, in double quotes. A backslash begins an escape: `\\`, `\"`, `\n`, `\t`, or `\x` and two
-- hexadecimal digits.
use Rattle.std.specs.Prelude.{ℕ, Bool, true, false, List, [], ◌∷◌, ◌+◌, ◌-◌, ◌==◌, ◌&&◌, ◌||◌, nat_lt, length, take, drop, slice_index, Option, Some, None, if◌then◌else◌}
use Rattle.asm_lex.specs.Characters.{newline, quote, backslash, is_ascii_hexdigit, first}

-- where a text ends behind its closing quote, counted from a place `at` bytes before these bytes of it; `None` where
-- its line ends first. A byte behind a backslash closes nothing
unfoldable pub text_end : ℕ → Bool → List ℕ → Option ℕ
text_end at escaped [] = None
text_end at escaped (byte ∷ bytes) =
    if byte == newline then None
    else (if escaped then text_end (at + 1) false bytes
    else (if byte == quote then Some (at + 1)
    else text_end (at + 1) (byte == backslash) bytes))

-- how many bytes the escape takes behind its backslash; 0 where there is none of a known form. The letters are n, t
-- and x
unfoldable pub escape_len : List ℕ → ℕ
escape_len bytes =
    if first bytes == backslash || first bytes == quote || first bytes == 110 || first bytes == 116 then 1
    else (if first bytes == 120 && is_ascii_hexdigit (slice_index bytes 1) && is_ascii_hexdigit (slice_index bytes 2) then 3
    else 0)

-- each backslash begins an escape; the first `skip` bytes belong to one that was seen
unfoldable pub are_escapes : ℕ → List ℕ → Bool
are_escapes skip [] = true
are_escapes skip (byte ∷ bytes) =
    if nat_lt 0 skip then are_escapes (skip - 1) bytes
    else (if byte == backslash then (if escape_len bytes == 0 then false else are_escapes (escape_len bytes) bytes)
    else are_escapes 0 bytes)

-- where the text at the front ends behind its closing quote, counted from behind its opening quote
abbrev pub closing : List ℕ → Option ℕ
closing bytes = text_end 0 false (drop 1 bytes)

-- what stands between the quotes of a text that ends there
abbrev pub inside : ℕ → List ℕ → List ℕ
inside end bytes = take (end - 1) (drop 1 bytes)

abbrev pub ends_at : ℕ → Option ℕ → Bool
ends_at place None = false
ends_at place (Some end) = end == place

-- the whole is one text
abbrev pub is_text : List ℕ → Bool
is_text text =
    first text == quote && ends_at (length text - 1) (closing text) && are_escapes 0 (inside (length text - 1) text)

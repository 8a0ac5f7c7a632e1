-- The lines of a dump: `goasm-dump 1 TARGET`, `pc H`, `sp H`, `link H`, then any number of `mem H BYTES`. H is a number
-- in sixteen small hexadecimal digits, BYTES are one byte or more in two such digits each.
use Rattle.std.specs.Prelude.{ℕ, Bool, List, ◌+◌, ◌%◌, ◌^◌, ◌==◌, ◌&&◌, nat_le, nat_lt, length, take, drop, slice_index, Option, Some, None, codes, bytes_eq, if◌then◌else◌}
use Rattle.std.specs.Option.{option_and_then}
use Rattle.goasm_base.specs.Ascii.{space}
use Rattle.machine_dump.specs.Digits.{are_small_hex, word_of, bytes_of}

-- the number of the machine (the ELF's `e_machine`) that the first line names
unfoldable pub machine_of : List ℕ → Option ℕ
machine_of text =
    if bytes_eq text (codes "goasm-dump 1 amd64") then Some 62
    else (if bytes_eq text (codes "goasm-dump 1 arm64") then Some 183
    else (if bytes_eq text (codes "goasm-dump 1 riscv64") then Some 243
    else None))

-- the number of a line that has this beginning, then H and nothing else
unfoldable pub field_of : List ℕ → List ℕ → Option ℕ
field_of name text =
    if bytes_eq (take (length name) text) name then word_of (drop (length name) text) else None

abbrev pub pc_of : List ℕ → Option ℕ
pc_of text = field_of (codes "pc ") text

abbrev pub sp_of : List ℕ → Option ℕ
sp_of text = field_of (codes "sp ") text

-- amd64 has no link register, so that its number is 0
abbrev pub fits_machine : ℕ → ℕ → Option ℕ
fits_machine machine link = if machine == 62 && nat_lt 0 link then None else Some link

unfoldable pub link_of : ℕ → List ℕ → Option ℕ
link_of machine text = option_and_then (fits_machine machine) (field_of (codes "link ") text)

-- bytes of memory, from an address on
pub record Range : Type 0 where
  pub first : ℕ
  pub bytes : List ℕ

-- the address behind its last byte
abbrev pub end_of : Range → ℕ
end_of range = range.first + length range.bytes

-- a space, and one byte or more in two digits each
abbrev pub are_bytes : List ℕ → Bool
are_bytes text =
    nat_lt 2 (length text) && length text % 2 == 1 && slice_index text 0 == space && are_small_hex (drop 1 text)

-- what stands behind the address of a `mem` line: a space and the bytes, the last of which lies below 2 ^ 64
unfoldable pub range_from : ℕ → List ℕ → Option Range
range_from first text =
    if are_bytes text && nat_le (first + length (bytes_of (drop 1 text))) (2 ^ 64)
    then Some (record { first = first; bytes = bytes_of (drop 1 text) }) else None

-- the range of a `mem` line
unfoldable pub range_of : List ℕ → Option Range
range_of text =
    option_and_then (λ first. range_from first (drop 20 text)) (field_of (codes "mem ") (take 20 text))

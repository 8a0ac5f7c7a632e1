-- What a dump says of its machine: the memory.
use Rattle.std.specs.Prelude.{ℕ, zero, suc, List, [], ◌∷◌, ◌+◌, ◌-◌, ◌&&◌, nat_le, nat_lt, slice_index, Option, Some, None, if◌then◌else◌}
use Rattle.std.specs.Option.{option_map, option_and_then}
use Rattle.machine_effect.specs.Memory.{number_of}
use Rattle.machine_dump.specs.Form.{Range, end_of, range_of}
use Rattle.machine_dump.specs.Faults.{mem_lines}

abbrev pub onto_ranges : Option Range → List Range → List Range
onto_ranges None ranges = ranges
onto_ranges (Some range) ranges = range ∷ ranges

-- the ranges of lines
unfoldable pub ranges_in : List (List ℕ) → List Range
ranges_in [] = []
ranges_in (text ∷ texts) = onto_ranges (range_of text) (ranges_in texts)

-- the ranges of a dump
abbrev pub ranges_of : List ℕ → List Range
ranges_of bytes = ranges_in (mem_lines bytes)

-- the byte at an address, where one of the ranges has it
unfoldable pub byte_in : List Range → ℕ → Option ℕ
byte_in [] at = None
byte_in (range ∷ ranges) at =
    if nat_le range.first at && nat_lt at (end_of range) then Some (slice_index range.bytes (at - range.first))
    else byte_in ranges at

-- the byte of a dump at an address
abbrev pub byte_of : List ℕ → ℕ → Option ℕ
byte_of bytes at = byte_in (ranges_of bytes) at

-- this many bytes of a memory from an address on; none where one of them is missing
unfoldable pub bytes_from : (ℕ → Option ℕ) → ℕ → ℕ → Option (List ℕ)
bytes_from byte at zero = Some []
bytes_from byte at (suc count) =
    option_and_then (λ value. option_map (λ rest. value ∷ rest) (bytes_from byte (at + 1) count)) (byte at)

-- the word at an address: eight bytes, the lowest first
abbrev pub word_in : (ℕ → Option ℕ) → ℕ → Option ℕ
word_in byte at = option_map number_of (bytes_from byte at 8)

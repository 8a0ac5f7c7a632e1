-- Memory: a finite map from addresses to bytes. Numbers stand in it with the lowest byte first.
use Rattle.std.specs.Prelude.{◌≡◌, ℕ, zero, suc, Bool, List, [], ◌∷◌, ◌+◌, ◌*◌, ◌/◌, ◌%◌, ◌<◌, ◌≤◌, ◌&&◌, nat_le, nat_lt, Option, Some, None, IsSome}
use Rattle.std.specs.Option.{option_map, option_and_then}
use Rattle.std.specs.Ordering.{nat_cmp}
use Rattle.std.specs.FinMap as map
use Rattle.std.specs.FinMap.{FinMap}

abbrev pub Memory : Type 0
Memory = FinMap nat_cmp ℕ

-- q is one of this many addresses
abbrev pub is_within : ℕ → ℕ → ℕ → Bool
is_within at count q = nat_le at q && nat_lt q (at + count)

-- the byte at an address, where there is one
abbrev pub byte_at : Memory → ℕ → Option ℕ
byte_at memory at = map.get memory at

-- this many bytes from an address on; none where one of them is missing
unfoldable pub bytes_at : Memory → ℕ → ℕ → Option (List ℕ)
bytes_at memory at zero = Some []
bytes_at memory at (suc count) =
    option_and_then (λ byte. option_map (λ rest. byte ∷ rest) (bytes_at memory (at + 1) count)) (byte_at memory at)

-- the number that bytes make, the lowest first
unfoldable pub number_of : List ℕ → ℕ
number_of [] = 0
number_of (byte ∷ rest) = byte + 256 * number_of rest

-- the lowest bytes of a number, this many
unfoldable pub bytes_of : ℕ → ℕ → List ℕ
bytes_of zero number = []
bytes_of (suc count) number = number % 256 ∷ bytes_of count (number / 256)

-- the number in this many bytes from an address on
abbrev pub number_at : Memory → ℕ → ℕ → Option ℕ
number_at memory at width = option_map number_of (bytes_at memory at width)

-- a word has eight bytes
abbrev pub word_at : Memory → ℕ → Option ℕ
word_at memory at = number_at memory at 8

-- an access of this many bytes has a value: all of them are there
abbrev pub IsMapped : Memory → ℕ → ℕ → Type 0
IsMapped memory at width = (k : ℕ) → k < width → IsSome (byte_at memory (at + k))

-- the memory after these bytes were set from an address on
unfoldable pub put : Memory → ℕ → List ℕ → Memory
put memory at [] = memory
put memory at (byte ∷ rest) = put (map.insert memory at byte) (at + 1) rest

-- no address of the map is at least `from`
abbrev pub NoneFrom : Memory → ℕ → Type 0
NoneFrom memory from = (q : ℕ) → from ≤ q → byte_at memory q ≡ None

-- the first of the map's addresses that is at least `from`
pub record IsFirstFrom (memory : Memory) (from at : ℕ) : Type 0 where
  pub from_on : from ≤ at
  pub mapped : IsSome (byte_at memory at)
  pub first : (q : ℕ) → from ≤ q → q < at → byte_at memory q ≡ None

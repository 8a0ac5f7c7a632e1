-- The pages in which a memory keeps its bytes. Page n has the bytes from address 4096 n on.
use Rattle.std.specs.Prelude.{◌≡◌, ℕ, List, [], ◌∷◌, ◌+◌, ◌-◌, ◌*◌, ◌/◌, ◌%◌, ◌<◌, ◌≤◌, ◌^◌, length, slice_get, Option, Some, None, IsSome, is_some, if◌then◌else◌}
use Rattle.std.specs.Option.{option_and_then}
use Rattle.std.specs.Ordering.{nat_cmp}
use Rattle.std.specs.BTreeMap.{BTreeMap, get}
use Rattle.std.specs.FinMap as map
use Rattle.machine_effect.specs.declared.page.Page.{Page}
use Rattle.machine_effect.specs.Page.{page_size, at_place}
use Rattle.machine_effect.specs.Memory.{Memory, is_within}

-- the byte at an address, where there is one
abbrev pub byte_in : BTreeMap ℕ Page → ℕ → Option ℕ
byte_in pages at = option_and_then (λ page. at_place page.places.items (at % page_size)) (get nat_cmp pages (at / page_size))

-- a memory in which a place is set: it has this byte, or none
abbrev pub with_place : Memory → ℕ → Option ℕ → Memory
with_place memory at (Some byte) = map.insert memory at byte
with_place memory at None = map.remove memory at

-- a memory in which places are set from an address on
abbrev pub with_places : Memory → ℕ → List (Option ℕ) → Memory
with_places memory at [] = memory
with_places memory at (place ∷ places) = with_place (with_places memory (at + 1) places) at place

-- the memory that pages make
unfoldable pub memory_of : List (ℕ × Page) → Memory
memory_of [] = map.empty
memory_of (entry ∷ entries) = with_places (memory_of entries) (page_size * entry.0) entry.1.places.items

abbrev pub HasPage : BTreeMap ℕ Page → ℕ → Type 0
HasPage pages number = IsSome (get nat_cmp pages number)

-- the addresses of each page have 64 bits
abbrev pub HasLowPages : BTreeMap ℕ Page → Type 0
HasLowPages pages = (n : ℕ) → HasPage pages n → n < 2 ^ 52

abbrev pub SameBytes : BTreeMap ℕ Page → BTreeMap ℕ Page → Type 0
SameBytes old new = (q : ℕ) → byte_in new q ≡ byte_in old q

abbrev pub SamePages : BTreeMap ℕ Page → BTreeMap ℕ Page → Type 0
SamePages old new = (n : ℕ) → is_some (get nat_cmp new n) ≡ is_some (get nat_cmp old n)

-- the first bytes of the list, this many, stand from an address on, and all else is as before
abbrev pub WritesFirst : BTreeMap ℕ Page → BTreeMap ℕ Page → ℕ → ℕ → List ℕ → Type 0
WritesFirst old new at count bytes =
    (q : ℕ) → byte_in new q ≡ (if is_within at count q then slice_get bytes (q - at) else byte_in old q)

abbrev pub WritesBytes : BTreeMap ℕ Page → BTreeMap ℕ Page → ℕ → List ℕ → Type 0
WritesBytes old new at bytes = WritesFirst old new at (length bytes) bytes

-- the first address from this one on that has a byte
pub record IsFirstByte (pages : BTreeMap ℕ Page) (from at : ℕ) : Type 0 where
  pub from_on : from ≤ at
  pub has : IsSome (byte_in pages at)
  pub first : (q : ℕ) → from ≤ q → q < at → byte_in pages q ≡ None

-- the first page whose number is at least this
pub record IsFirstPage (pages : BTreeMap ℕ Page) (from number : ℕ) (page : Page) : Type 0 where
  pub from_on : from ≤ number
  pub has : get nat_cmp pages number ≡ Some page
  pub first : (n : ℕ) → from ≤ n → n < number → get nat_cmp pages n ≡ None

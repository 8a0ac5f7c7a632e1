-- The places of one page, each of which has a byte or not.
use Rattle.std.specs.Prelude.{◌≡◌, ℕ, List, ◌<◌, ◌≤◌, slice_index_or, Option, None, IsSome}

-- how many places a page has
abbrev pub page_size : ℕ
page_size = 4096

-- the byte at a place, where there is one
abbrev pub at_place : List (Option ℕ) → ℕ → Option ℕ
at_place places place = slice_index_or places place None

-- the first place from this one on that has a byte
pub record IsFirstPlace (places : List (Option ℕ)) (from place : ℕ) : Type 0 where
  pub from_on : from ≤ place
  pub within : place < page_size
  pub has : IsSome (at_place places place)
  pub first : (k : ℕ) → from ≤ k → k < place → at_place places k ≡ None

-- Which function an offset belongs to, and a table of that.
use Rattle.std.specs.Prelude.{ℕ, ◌*◌, ◌^◌, ◌<◌, ◌≤◌, List, length, slice_index}
use Rattle.std.specs.List.Sorted.{IsNonDecreasing}

-- of functions that begin at these offsets, the last one that begins at or before this one
pub record IsOwner (entries : List ℕ) (offset number : ℕ) : Type 0 where
  pub inside : number < length entries
  pub low : slice_index entries number ≤ offset
  pub high : (later : ℕ) → number < later → later < length entries → offset < slice_index entries later

-- the functions that the first byte of each 4,096 belongs to
pub record AreBuckets (entries buckets : List ℕ) : Type 0 where
  pub some : 0 < length buckets
  pub few : length entries < 2 ^ 32
  pub ordered : IsNonDecreasing entries
  pub owners : (bucket : ℕ) → bucket < length buckets → IsOwner entries (4096 * bucket) (slice_index buckets bucket)

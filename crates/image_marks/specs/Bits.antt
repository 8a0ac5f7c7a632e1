-- A set of numbers, as one bit each in words of 64 bits.
use Rattle.std.specs.Prelude.{◌≡◌, ℕ, ◌+◌, ◌*◌, ◌/◌, ◌%◌, ◌<◌, ◌≤◌, ◌==◌, Bool, true, false, List, length, slice_index}
use Rattle.std.specs.Int.{bit_at}

-- the number is in the set
unfoldable pub has : List ℕ → ℕ → Bool
has words number = bit_at (slice_index words (number / 64)) (number % 64) == 1

-- the numbers below this one have bits
abbrev pub room : List ℕ → ℕ
room words = 64 * length words

-- the greatest number of the set below another, and at most 15 below it
pub record IsNearest (words : List ℕ) (before number : ℕ) : Type 0 where
  pub marked : has words number ≡ true
  pub below : number < before
  pub near : before ≤ number + 15
  pub none_between : (other : ℕ) → number < other → other < before → has words other ≡ false

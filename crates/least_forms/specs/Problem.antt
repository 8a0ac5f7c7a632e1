-- Lines of code that will stand one behind the other. Some are branches to a line, and a branch has two forms: 0, the short one,
-- and 1, the long one.
use Rattle.std.specs.Prelude.{ℕ, zero, suc, ◌+◌, ◌-◌, ◌^◌, ◌<◌, Option, List, slice_index}

pub record Problem : Type 1 where
  -- how many lines there are
  pub count : ℕ
  -- the unit of a line's length, in bytes
  pub quantum : ℕ
  -- the length in bytes of the line of this number in this form
  pub width : ℕ → ℕ → ℕ
  -- the line that the branch of this number goes to; none where the line is no branch, or leads out of these lines
  pub goal : ℕ → Option ℕ
  -- the branch of this number, in this form and at this place, can go to the other place
  pub reaches : ℕ → ℕ → ℕ → ℕ → Type 0

-- An assignment gives each line a form. This is the one that a list holds.
abbrev pub at : List ℕ → ℕ → ℕ
at forms line = slice_index forms line

-- every line has its long form
abbrev pub all_long : ℕ → ℕ
all_long line = 1

-- where a line begins, in bytes behind the beginning of the first
unfoldable pub place : Problem → (ℕ → ℕ) → ℕ → ℕ
place p form zero = 0
place p form (suc line) = place p form line + p.width line (form line)

-- with every line in its long form the code has fewer than 2^32 bytes
abbrev pub HasRoom : Problem → Type 0
HasRoom p = place p all_long p.count < 2 ^ 32

-- how far apart two numbers are
abbrev pub apart : ℕ → ℕ → ℕ
apart a b = (a - b) + (b - a)

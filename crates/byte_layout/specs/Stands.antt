-- Where a part stands in bytes: what is read from that place on begins with the part.
use Rattle.std.specs.Prelude.{◌≡◌, ℕ, List, ◌++◌, drop}

pub record Stands (bytes : List ℕ) (at : ℕ) (part : List ℕ) : Type 0 where
  -- what lies behind the part
  pub behind : List ℕ
  pub is : drop at bytes ≡ part ++ behind

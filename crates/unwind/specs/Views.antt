-- How contracts see a walker.
use Rattle.std.specs.Prelude.{ℕ, List}
use Rattle.unwind.specs.declared.stage.Stage.{Stage}

-- the bytes of its image, where it stands, and the memory that it asks
pub record WalkView (R : Type 0) : Type 0 where
  pub image : List ℕ
  pub stage : Stage
  pub peek : R

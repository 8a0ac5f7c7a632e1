-- How a command ends where every file that it asks for is read.
use Rattle.std.specs.Prelude.{ℕ, List}

pub data Ending : Type 0 where
  Text : (text : List ℕ) → Ending
  Refusal : (line : List ℕ) → Ending
  NoForm : Ending

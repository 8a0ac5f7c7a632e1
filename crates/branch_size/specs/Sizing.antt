-- The sizes of a function.
use Rattle.std.specs.Prelude.{◌≡◌, ℕ, ◌<◌, List, length, Some, slice_index}
use Rattle.std.specs.List.{slice_get}
use Rattle.asm_target.specs.declared.body.Line.{Line}
use Rattle.asm_target.specs.declared.frame.Guard.{Guard}
use Rattle.asm_target.specs.Aiming.{Aiming}
use Rattle.asm_target.specs.InstructionSet.{InstructionSet}
use Rattle.goasm_base.specs.declared.pos.Pos.{Pos}
use Rattle.least_forms.specs.declared.sizes.Sizes.{Sizes}
use Rattle.least_forms.specs.Assignment.{DoesReach, IsLeast, IsLost}
use Rattle.least_forms.specs.Problem.{Problem, at, place}
use Rattle.branch_size.specs.Rows.{problem_of, rows_of}

-- a function's lines as branch relaxation sees them
abbrev pub branches_of : {Instr : Type 0} → InstructionSet Instr → (Instr → Type 0) → Aiming Instr → ℕ → Guard Instr
    → List (Line Instr) → Problem
branches_of set fits aiming quantum guard code = problem_of set fits aiming quantum (rows_of set aiming guard code)

-- the forms are the least assignment in which every short branch reaches, and every branch reaches in it; with them the places of
-- the lines and their length
pub record IsSized (p : Problem) (sizes : Sizes) : Type 0 where
  pub least : IsLeast p (at sizes.forms)
  pub reaches : (line : ℕ) → line < p.count → DoesReach p (at sizes.forms) line
  pub forms : length sizes.forms ≡ p.count
  pub places : length sizes.places ≡ p.count
  pub each : (line : ℕ) → line < p.count → slice_index sizes.places line ≡ place p (at sizes.forms) line
  pub whole : sizes.length ≡ place p (at sizes.forms) p.count

-- in the least assignment the first branch that doesn't reach is that of this position, with this distance to its goal
pub record IsOutOfReach {Instr : Type 0} (p : Problem) (code : List (Line Instr)) (pos : Pos) (distance : ℕ) : Type 0 where
  pub form : ℕ → ℕ
  pub least : IsLeast p form
  pub line : ℕ
  pub lost : IsLost p form line distance
  pub item : Line Instr
  pub here : slice_get code line ≡ Some item
  pub at : item.pos ≡ pos

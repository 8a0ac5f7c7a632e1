-- What branch relaxation is given of a function.
use Rattle.std.specs.Prelude.{◌≡◌, ℕ, ◌+◌, ◌<◌, List, [], ◌∷◌, ◌==◌, true, length, map, Option, Some, None, if◌then◌else◌}
use Rattle.std.specs.List.{slice_get}
use Rattle.asm_target.specs.declared.body.Line.{Line}
use Rattle.asm_target.specs.declared.frame.Guard.{Guard}
use Rattle.asm_target.specs.Aiming.{Aiming, CanReach, bytes_of}
use Rattle.asm_target.specs.InstructionSet.{InstructionSet}
use Rattle.least_forms.specs.Problem.{Problem}
use Rattle.branch_size.specs.declared.rows.Row.{Row}
use Rattle.asm_target.specs.Goals.{goal_of}

module _ {Instr : Type 0} (set : InstructionSet Instr) (aiming : Aiming Instr) where
  -- a line's instruction, the line that it refers to, and the lengths of its two forms
  abbrev pub row_of : Guard Instr → List (Line Instr) → Line Instr → Row Instr
  row_of guard code line = record {
    instr = line.instr;
    goal = goal_of guard code line;
    short = bytes_of set (aiming.forms line.instr 0);
    long = bytes_of set (aiming.forms line.instr 1);
  }

  abbrev pub rows_of : Guard Instr → List (Line Instr) → List (Row Instr)
  rows_of guard code = map (row_of guard code) code

abbrev pub width_in : {Instr : Type 0} → Option (Row Instr) → ℕ → ℕ
width_in None form = 0
width_in (Some row) form = if form == 0 then row.short else row.long

abbrev pub goal_in : {Instr : Type 0} → Option (Row Instr) → Option ℕ
goal_in None = None
goal_in (Some row) = row.goal

module _ {Instr : Type 0} (set : InstructionSet Instr) (fits : Instr → Type 0) (aiming : Aiming Instr) where
  -- the last instruction of a form can be aimed at the goal from where it stands
  abbrev pub Reaches : List Instr → ℕ → ℕ → Type 0
  Reaches [] place goal = ⊥
  Reaches (i ∷ []) place goal = CanReach set fits aiming i place goal
  Reaches (i ∷ k ∷ form) place goal = Reaches (k ∷ form) (place + length (set.spelling i)) goal

  abbrev pub ReachesIn : Option (Row Instr) → ℕ → ℕ → ℕ → Type 0
  ReachesIn None form place goal = ⊥
  ReachesIn (Some row) form place goal = Reaches (aiming.forms row.instr form) place goal

  -- the lines of branch relaxation
  unfoldable pub problem_of : ℕ → List (Row Instr) → Problem
  problem_of quantum rows = record {
    count = length rows;
    quantum = quantum;
    width = λ line. width_in (slice_get rows line);
    goal = λ line. goal_in (slice_get rows line);
    reaches = λ line. ReachesIn (slice_get rows line);
  }

  -- a row is right: its instruction is listed, its lengths are those of the forms, and it goes to a row and can hold that
  pub record IsRow (count : ℕ) (row : Row Instr) : Type 0 where
    pub fit : fits row.instr
    pub short : row.short ≡ bytes_of set (aiming.forms row.instr 0)
    pub long : row.long ≡ bytes_of set (aiming.forms row.instr 1)
    pub goal : (goal : ℕ) → row.goal ≡ Some goal → (goal < count) × (aiming.is_directed row.instr ≡ true)

  abbrev pub AreRows : List (Row Instr) → Type 0
  AreRows rows = (line : ℕ) (row : Row Instr) → slice_get rows line ≡ Some row → IsRow (length rows) row

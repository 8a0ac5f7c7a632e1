-- The least assignment of forms in which every branch in its short form reaches its goal.
use Rattle.std.specs.Prelude.{◌≡◌, ℕ, ◌<◌, ◌≤◌, Some, None}
use Rattle.least_forms.specs.Problem.{Problem, place, apart}

-- in this assignment the line, if it is a branch, reaches the line that it goes to
abbrev pub DoesReach : Problem → (ℕ → ℕ) → ℕ → Type 0
DoesReach p form line =
    (goal : ℕ) → p.goal line ≡ Some goal → p.reaches line (form line) (place p form line) (place p form goal)

-- every branch in its short form reaches its goal; a line without a goal among the lines has the long form
pub record IsSound (p : Problem) (form : ℕ → ℕ) : Type 0 where
  pub forms : (line : ℕ) → form line ≤ 1
  pub others : (line : ℕ) → line < p.count → p.goal line ≡ None → form line ≡ 1
  pub short : (line goal : ℕ) → line < p.count → p.goal line ≡ Some goal → form line ≡ 0
      → p.reaches line 0 (place p form line) (place p form goal)

-- no sound assignment has a short form where this one has a long one
abbrev pub IsBelow : Problem → (ℕ → ℕ) → Type 0
IsBelow p form = (other : ℕ → ℕ) → IsSound p other → (line : ℕ) → line < p.count → form line ≤ other line

-- a sound assignment that has the long form only where every sound one has it
pub record IsLeast (p : Problem) (form : ℕ → ℕ) : Type 0 where
  pub sound : IsSound p form
  pub below : IsBelow p form

-- the first line that doesn't reach its goal, and how far that is from it, in bytes
pub record IsLost (p : Problem) (form : ℕ → ℕ) (line distance : ℕ) : Type 0 where
  pub within : line < p.count
  pub lost : ¬ DoesReach p form line
  pub before : (earlier : ℕ) → earlier < line → DoesReach p form earlier
  pub goal : ℕ
  pub goes : p.goal line ≡ Some goal
  pub far : distance ≡ apart (place p form line) (place p form goal)

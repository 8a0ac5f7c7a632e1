-- What is kept while short forms become long ones.
use Rattle.std.specs.Prelude.{◌≡◌, ◌⊎◌, ℕ, ◌+◌, ◌-◌, ◌<◌, ◌≤◌, Bool, false, List, length, Some, None, nat_lt, slice_index, slice_index_or, if◌then◌else◌}
use Rattle.std.specs.List.{sum_by}
use Rattle.least_forms.specs.Problem.{Problem, at, place, apart}
use Rattle.least_forms.specs.Assignment.{IsBelow}

-- the list has a form for each line, a long one for each line that is no branch, and a long one for a branch only where every
-- sound assignment has it
pub record IsStart (p : Problem) (forms : List ℕ) : Type 0 where
  pub len : length forms ≡ p.count
  pub small : (line : ℕ) → at forms line ≤ 1
  pub others : (line : ℕ) → line < p.count → p.goal line ≡ None → at forms line ≡ 1
  pub below : IsBelow p (at forms)

-- the list holds the place of each line, and of the end
pub record HasPlaces (p : Problem) (forms places : List ℕ) : Type 0 where
  pub len : length places ≡ p.count + 1
  pub each : (line : ℕ) → line ≤ p.count → slice_index places line ≡ place p (at forms) line

-- the list holds the distance of each branch and its goal between these places
pub record HasDistances (p : Problem) (places distances : List ℕ) : Type 0 where
  pub len : length distances ≡ p.count
  pub each : (line goal : ℕ) → line < p.count → p.goal line ≡ Some goal
      → slice_index distances line ≡ apart (slice_index places line) (slice_index places goal)

-- a branch in its short form to this goal, whose long form is longer: one that can still move others
abbrev pub IsShort : Problem → List ℕ → ℕ → ℕ → Type 0
IsShort p forms line goal =
    (line < p.count) × (p.goal line ≡ Some goal) × (at forms line ≡ 0) × (p.width line 0 < p.width line 1)

-- the line stands between a branch and its goal: where it grows, they move apart
abbrev pub Spans : ℕ → ℕ → ℕ → Type 0
Spans line goal between = ((line ≤ between) × (between < goal)) ⊎ ((goal ≤ between) × (between < line))

-- a branch in its short form goes over the line `between`
abbrev pub Touches : Problem → List ℕ → ℕ → ℕ → Type 0
Touches p forms line between = (goal : ℕ) × IsShort p forms line goal × Spans line goal between

-- how far a branch is from its goal
abbrev pub distance : Problem → List ℕ → ℕ → ℕ → ℕ
distance p forms line goal = apart (place p (at forms) line) (place p (at forms) goal)

-- where a branch and its goal stand if the lower of them stands at 0
abbrev pub branch_over : ℕ → ℕ → ℕ → ℕ
branch_over line goal far = if nat_lt goal line then far else 0

abbrev pub goal_over : ℕ → ℕ → ℕ → ℕ
goal_over line goal far = if nat_lt goal line then 0 else far

-- the branch, in its short form, reaches a goal that is so far from it
abbrev pub ReachesOver : Problem → ℕ → ℕ → ℕ → Type 0
ReachesOver p line goal far = p.reaches line 0 (branch_over line goal far) (goal_over line goal far)

-- the branch may have lost its reach
abbrev pub mark : List Bool → ℕ → Bool
mark marks line = slice_index_or marks line false

-- a marked line is to be looked at: one without a mark reaches
pub record IsWork (p : Problem) (forms distances : List ℕ) (marks : List Bool) : Type 0 where
  pub start : IsStart p forms
  pub len_distances : length distances ≡ p.count
  pub len_marks : length marks ≡ p.count
  pub exact : (line goal : ℕ) → IsShort p forms line goal → at distances line ≡ distance p forms line goal
  pub unmarked : (line goal : ℕ) → IsShort p forms line goal → mark marks line ≡ false
      → ReachesOver p line goal (at distances line)

-- no branch in its short form goes over more lines than `window`
abbrev pub IsWindow : Problem → List ℕ → ℕ → Type 0
IsWindow p forms window = (line goal : ℕ) → IsShort p forms line goal → apart line goal ≤ window

-- every branch that can still move others reaches in its short form
abbrev pub AllReach : Problem → List ℕ → Type 0
AllReach p forms = (line goal : ℕ) → IsShort p forms line goal
    → p.reaches line 0 (place p (at forms) line) (place p (at forms) goal)

-- a form is what it was, or a short one was lost where the lines stood by the forms before; what is short reaches there
pub record IsDropped (p : Problem) (before after : List ℕ) (line : ℕ) : Type 0 where
  pub kept : (at after line ≡ at before line)
      ⊎ ((at after line ≡ 1) × (at before line ≡ 0) × ((goal : ℕ) × (p.goal line ≡ Some goal)
      × ¬ p.reaches line 0 (place p (at before) line) (place p (at before) goal)))
  pub reaches : (goal : ℕ) → p.goal line ≡ Some goal → at after line ≡ 0
      → p.reaches line 0 (place p (at before) line) (place p (at before) goal)

-- how many forms are short
abbrev pub shorts : List ℕ → ℕ
shorts forms = sum_by (λ form. 1 - form) forms

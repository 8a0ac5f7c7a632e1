-- What the solver needs to know of the lines.
use Rattle.std.specs.Prelude.{◌≡◌, ◌⊎◌, ℕ, ◌+◌, ◌%◌, ◌^◌, ◌<◌, ◌≤◌, Some}
use Rattle.least_forms.specs.Problem.{Problem}

-- from `from` to `to` it is at least as far as from `place` to `goal`, and in the same direction
abbrev pub IsAsFar : ℕ → ℕ → ℕ → ℕ → Type 0
IsAsFar place goal from to =
    ((place ≤ goal) × (from ≤ to) × (goal + from ≤ to + place))
    ⊎ ((goal ≤ place) × (to ≤ from) × (place + to ≤ from + goal))

-- two places that differ by whole quanta
pub record IsPlaced (quantum place goal : ℕ) : Type 0 where
  pub place_small : place < 2 ^ 32
  pub goal_small : goal < 2 ^ 32
  pub place_whole : place % quantum ≡ 0
  pub goal_whole : goal % quantum ≡ 0

pub record IsLawful (p : Problem) : Type 0 where
  pub quantum : (p.quantum ≡ 1) ⊎ (p.quantum ≡ 4)
  -- each form has whole quanta, and the long one isn't the smaller
  pub whole : (line form : ℕ) → form ≤ 1 → p.width line form % p.quantum ≡ 0
  pub grows : (line : ℕ) → p.width line 0 ≤ p.width line 1
  pub goals : (line goal : ℕ) → line < p.count → p.goal line ≡ Some goal → goal < p.count
  -- a branch whose short form reaches a goal reaches each nearer one in the same direction
  pub nearer : (line own place goal from to : ℕ) → line < p.count → p.goal line ≡ Some own → IsPlaced p.quantum place goal
      → IsPlaced p.quantum from to → IsAsFar place goal from to → p.reaches line 0 from to → p.reaches line 0 place goal

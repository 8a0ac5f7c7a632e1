-- A branch reaches its goal from where it stands exactly where it reaches over its distance.
use Rattle.std.proofs.Common.{◌≡◌, ◌⊎◌, ℕ, ◌%◌, ◌<◌, ◌≤◌, arith, inl, inr, Some}
use Rattle.std.proofs.lemmas.Bool.{cases_lt}
use Rattle.std.proofs.lemmas.Bool.Decides.{nat_tests}
use Rattle.least_forms.specs.Problem.{Problem, apart}
use Rattle.least_forms.specs.Laws.{IsLawful, IsPlaced, IsAsFar}
use Rattle.least_forms.specs.Work.{ReachesOver, branch_over, goal_over}
use Rattle.least_forms.proofs.PlaceLemmas.{whole_zero}

-- two numbers in the order of their lines
abbrev pub IsInOrder : ℕ → ℕ → ℕ → ℕ → Type 0
IsInOrder line goal place to = ((line ≤ goal) × (place ≤ to)) ⊎ ((goal < line) × (to ≤ place))

whole_difference : (quantum a b : ℕ) → (quantum ≡ 1) ⊎ (quantum ≡ 4) → a % quantum ≡ 0 → b % quantum ≡ 0
    → apart a b % quantum ≡ 0
whole_difference quantum a b (inl one) first second = rw one (omega arith)
whole_difference quantum a b (inr four) first second =
    let first' : a % 4 ≡ 0 = rw four at first in
    let second' : b % 4 ≡ 0 = rw four at second in
    rw four (omega arith)

-- the places of a branch that goes over a distance from 0
over_ahead : (line goal far : ℕ) → line ≤ goal → (branch_over line goal far ≡ 0) × (goal_over line goal far ≡ far)
over_ahead line goal far order = (grind (arith, nat_tests), grind (arith, nat_tests))

over_back : (line goal far : ℕ) → goal < line → (branch_over line goal far ≡ far) × (goal_over line goal far ≡ 0)
over_back line goal far order = (grind (arith, nat_tests), grind (arith, nat_tests))

over_placed : (p : Problem) → IsLawful p → (line goal place to : ℕ) → IsPlaced p.quantum place to
    → IsPlaced p.quantum (branch_over line goal (apart place to)) (goal_over line goal (apart place to))
over_placed p lawful line goal place to placed =
    let whole = whole_difference p.quantum place to lawful.quantum placed.place_whole placed.goal_whole in
    let zero = whole_zero p.quantum lawful.quantum in
    elim (cases_lt goal line) [
      | inl back ↦
          let over = over_back line goal (apart place to) back in
          rw (over.0, over.1) (record { place_small = omega arith; goal_small = omega arith; place_whole = whole; goal_whole = zero })
      | inr ahead ↦
          let over = over_ahead line goal (apart place to) ahead in
          rw (over.0, over.1) (record { place_small = omega arith; goal_small = omega arith; place_whole = zero; goal_whole = whole })
    ]

-- over a distance from 0 it is as far as from place to place, in the same direction
over_as_far : (line goal place to : ℕ) → IsInOrder line goal place to
    → IsAsFar place to (branch_over line goal (apart place to)) (goal_over line goal (apart place to))
    × IsAsFar (branch_over line goal (apart place to)) (goal_over line goal (apart place to)) place to
over_as_far line goal place to order = elim (cases_lt goal line) [
  | inl back ↦
      let over = over_back line goal (apart place to) back in
      let below : to ≤ place = elim order [ inl h ↦ omega arith | inr h ↦ h.1 ] in
      rw (over.0, over.1) (inr (omega arith, omega arith, omega arith), inr (omega arith, omega arith, omega arith))
  | inr ahead ↦
      let over = over_ahead line goal (apart place to) ahead in
      rw (over.0, over.1) (elim order [
        | inl h ↦ (inl (h.1, omega arith, omega arith), inl (omega arith, h.1, omega arith))
        | inr h ↦ absurd (omega arith)
      ])
]

-- a branch that reaches from its place reaches over its distance
pub over_places : (p : Problem) → IsLawful p → (line goal place to : ℕ) → line < p.count → p.goal line ≡ Some goal
    → IsPlaced p.quantum place to → IsInOrder line goal place to → p.reaches line 0 place to → ReachesOver p line goal (apart place to)
over_places p lawful line goal place to within goes placed order reaches =
    lawful.nearer line goal (branch_over line goal (apart place to)) (goal_over line goal (apart place to)) place to
    within goes (over_placed p lawful line goal place to placed) placed (over_as_far line goal place to order).1 reaches

-- a branch that reaches over its distance reaches from its place
pub places_over : (p : Problem) → IsLawful p → (line goal place to : ℕ) → line < p.count → p.goal line ≡ Some goal
    → IsPlaced p.quantum place to → IsInOrder line goal place to → ReachesOver p line goal (apart place to) → p.reaches line 0 place to
places_over p lawful line goal place to within goes placed order reaches =
    lawful.nearer line goal place to (branch_over line goal (apart place to)) (goal_over line goal (apart place to)) within goes
    placed (over_placed p lawful line goal place to placed) (over_as_far line goal place to order).0 reaches

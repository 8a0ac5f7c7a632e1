-- Places under assignments.
use Rattle.std.proofs.Common.{◌≡◌, ◌⊎◌, ℕ, zero, suc, ◌+◌, ◌%◌, ◌^◌, ◌<◌, ◌≤◌, refl, arith, add-one, inl, inr}
use Rattle.std.proofs.lemmas.Bool.{cases_lt}
use Rattle.least_forms.specs.Problem.{Problem, HasRoom, all_long, place}
use Rattle.least_forms.specs.Laws.{IsLawful, IsPlaced, IsAsFar}

-- the first place, and each next one
pub place_first : (p : Problem) (form : ℕ → ℕ) → place p form 0 ≡ 0
unfolding place
place_first p form = refl

pub place_next : (p : Problem) (form : ℕ → ℕ) (line : ℕ) → place p form (line + 1) ≡ place p form line + p.width line (form line)
unfolding place
place_next p form line = rw add-one refl

-- places don't fall
pub rises : (p : Problem) (form : ℕ → ℕ) (low high : ℕ) → low ≤ high → place p form low ≤ place p form high
unfolding place
rises p form low zero order = let e : low ≡ 0 = omega arith in rw e (omega arith)
rises p form low (suc high) order = elim (cases_lt high low) [
  | inl above ↦ let e : low ≡ suc high = omega arith in rw e (omega arith)
  | inr below ↦ omega (arith, rises p form low high below)
]

-- a greater form isn't the smaller one
pub wider : (p : Problem) → IsLawful p → (line a b : ℕ) → a ≤ b → b ≤ 1 → p.width line a ≤ p.width line b
wider p lawful line a b order most = elim (cases_lt a b) [
  | inl less ↦ let first : a ≡ 0 = omega arith in let second : b ≡ 1 = omega arith in
      rw (first, second) (lawful.grows line)
  | inr other ↦ let same : a ≡ b = omega arith in rw same (omega arith)
]

-- where each form is at most the other one, each stretch of lines is at most as long
pub between : (p : Problem) → IsLawful p → (small big : ℕ → ℕ) → ((line : ℕ) → big line ≤ 1) → (high : ℕ)
    → ((line : ℕ) → line < high → small line ≤ big line) → (low : ℕ) → low ≤ high
    → place p small high + place p big low ≤ place p big high + place p small low
unfolding place
between p lawful small big most zero less low order = let e : low ≡ 0 = omega arith in rw e (omega arith)
between p lawful small big most (suc high) less low order = elim (cases_lt high low) [
  | inl above ↦ let e : low ≡ suc high = omega arith in rw e (omega arith)
  | inr below ↦
      let here = wider p lawful high (small high) (big high) (less high (omega arith)) (most high) in
      let before = between p lawful small big most high (λ line h. less line (omega arith)) low below in
      omega arith
]

-- with room for long forms, each place is below 2^32
pub place_small : (p : Problem) → IsLawful p → HasRoom p → (form : ℕ → ℕ) → ((line : ℕ) → form line ≤ 1)
    → (line : ℕ) → line ≤ p.count → place p form line < 2 ^ 32
place_small p lawful room form most line within =
    let long = between p lawful form all_long (λ k. omega arith) p.count (λ k h. most k) 0 (omega arith) in
    omega (arith, rises p form line p.count within, place_first p form, place_first p all_long)

pub whole_zero : (quantum : ℕ) → (quantum ≡ 1) ⊎ (quantum ≡ 4) → 0 % quantum ≡ 0
whole_zero quantum (inl one) = rw one refl
whole_zero quantum (inr four) = rw four refl

-- the sum of whole quanta
whole_sum : (quantum a b : ℕ) → (quantum ≡ 1) ⊎ (quantum ≡ 4) → a % quantum ≡ 0 → b % quantum ≡ 0 → (a + b) % quantum ≡ 0
whole_sum quantum a b (inl one) first second = rw one (omega arith)
whole_sum quantum a b (inr four) first second =
    let first' : a % 4 ≡ 0 = rw four at first in
    let second' : b % 4 ≡ 0 = rw four at second in
    rw four (omega arith)

-- each place is a number of whole quanta
pub place_whole : (p : Problem) → IsLawful p → (form : ℕ → ℕ) → ((line : ℕ) → form line ≤ 1) → (line : ℕ)
    → place p form line % p.quantum ≡ 0
unfolding place
place_whole p lawful form most zero = whole_zero p.quantum lawful.quantum
place_whole p lawful form most (suc line) =
    whole_sum p.quantum (place p form line) (p.width line (form line)) lawful.quantum
    (place_whole p lawful form most line) (lawful.whole line (form line) (most line))

pub placed : (p : Problem) → IsLawful p → HasRoom p → (form : ℕ → ℕ) → ((line : ℕ) → form line ≤ 1) → (line goal : ℕ)
    → line ≤ p.count → goal ≤ p.count → IsPlaced p.quantum (place p form line) (place p form goal)
placed p lawful room form most line goal within among = record {
  place_small = place_small p lawful room form most line within;
  goal_small = place_small p lawful room form most goal among;
  place_whole = place_whole p lawful form most line;
  goal_whole = place_whole p lawful form most goal;
}

-- under greater forms two lines are at least as far apart
pub farther : (p : Problem) → IsLawful p → (small big : ℕ → ℕ) → ((line : ℕ) → big line ≤ 1)
    → ((line : ℕ) → line < p.count → small line ≤ big line) → (line goal : ℕ) → line ≤ p.count → goal ≤ p.count
    → IsAsFar (place p small line) (place p small goal) (place p big line) (place p big goal)
farther p lawful small big most less line goal within among = elim (cases_lt line goal) [
  | inl ahead ↦
      let order : line ≤ goal = omega arith in
      inl (
        rises p small line goal order,
        rises p big line goal order,
        omega (arith, between p lawful small big most goal (λ k h. less k (omega arith)) line order),
      )
  | inr back ↦
      inr (
        rises p small goal line back,
        rises p big goal line back,
        omega (arith, between p lawful small big most line (λ k h. less k (omega arith)) goal back),
      )
]

-- places under two assignments whose lines are equally long are the same
pub same_place : (p : Problem) (one other : ℕ → ℕ) (high : ℕ)
    → ((line : ℕ) → line < high → p.width line (one line) ≡ p.width line (other line)) → place p one high ≡ place p other high
unfolding place
same_place p one other zero same = refl
same_place p one other (suc high) same =
    let before = same_place p one other high (λ line h. same line (omega arith)) in
    let here = same high (omega arith) in
    omega arith

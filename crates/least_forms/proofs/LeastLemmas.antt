-- Least assignments.
use Rattle.std.proofs.Common.{◌≡◌, ◌≢◌, ℕ, ◌<◌, ◌≤◌, List, length, set, Option, Some, refl, sym, ◌∙◌, ap, subst, arith, inl, inr, length-set, get_or-set_other, get_or-set_same}
use Rattle.std.proofs.lemmas.Bool.{cases_lt}
use Rattle.least_forms.specs.Problem.{Problem, HasRoom, at, place, apart}
use Rattle.least_forms.specs.Assignment.{DoesReach, IsSound, IsBelow, IsLeast, IsLost}
use Rattle.least_forms.specs.Laws.{IsLawful}
use Rattle.least_forms.specs.Work.{IsStart}
use Rattle.least_forms.proofs.PlaceLemmas.{farther, placed, same_place}

one_of : (n : ℕ) → n ≤ 1 → ¬ (n ≡ 0) → n ≡ 1
one_of n most other = omega arith

-- where the short form doesn't reach in an assignment that no sound one is below, each sound one has the long form
pub forced : (p : Problem) → IsLawful p → HasRoom p → (form : ℕ → ℕ) → ((line : ℕ) → form line ≤ 1) → IsBelow p form
    → (line goal : ℕ) → line < p.count → p.goal line ≡ Some goal
    → ¬ p.reaches line 0 (place p form line) (place p form goal)
    → (other : ℕ → ℕ) → IsSound p other → other line ≡ 1
forced p lawful room form most below line goal within goes lost other sound =
    let among : goal < p.count = lawful.goals line goal within goes in
    let within' : line ≤ p.count = omega arith in
    let among' : goal ≤ p.count = omega arith in
    one_of (other line) (sound.forms line) (λ short. lost (lawful.nearer line goal (place p form line) (place p form goal)
    (place p other line) (place p other goal) within goes
    (placed p lawful room form most line goal within' among') (placed p lawful room other sound.forms line goal within' among')
    (farther p lawful form other sound.forms (below other sound) line goal within' among') (sound.short line goal within goes short)))

-- what holds of a list with one number replaced
pub set_at : (xs : List ℕ) (k x i : ℕ) (P : ℕ → Type 0) → k < length xs → (i ≡ k → P x) → (i ≢ k → P (at xs i)) → P (at (set xs k x) i)
set_at xs k x i P within here there = elim (cases_lt i k) [
  | inl less ↦
      let other : i ≢ k = omega arith in
      subst P (sym (get_or-set_other xs k i x 0 other)) (there other)
  | inr least ↦ elim (cases_lt k i) [
    | inl more ↦
        let other : i ≢ k = omega arith in
        subst P (sym (get_or-set_other xs k i x 0 other)) (there other)
    | inr most ↦
        let same : i ≡ k = omega arith in
        let value : at (set xs k x) i ≡ x = rw same (get_or-set_same xs k x 0 within) in
        subst P (sym value) (here same)
  ]
]

-- a branch that has its long form in every sound assignment gets it
pub start_set : (p : Problem) (forms : List ℕ) → IsStart p forms → (line : ℕ) → line < p.count
    → ((other : ℕ → ℕ) → IsSound p other → other line ≡ 1) → IsStart p (set forms line 1)
start_set p forms start line within all =
    let inside : line < length forms = omega (arith, start.len) in
    record {
      len = length-set forms line 1 ∙ start.len;
      small = λ k. set_at forms line 1 k (λ n. n ≤ 1) inside (λ same. omega arith) (λ other. start.small k);
      others = λ k below none. set_at forms line 1 k (λ n. n ≡ 1) inside (λ same. refl) (λ other. start.others k below none);
      below = λ other sound k below. set_at forms line 1 k (λ n. n ≤ other k) inside
          (λ same. let long = all other sound in rw same (omega arith)) (λ differs. start.below other sound k below);
    }

-- two least assignments are the same
pub one_least : (p : Problem) (one other : ℕ → ℕ) → IsLeast p one → IsLeast p other
    → (line : ℕ) → line < p.count → one line ≡ other line
one_least p one other first second line within =
    let a = first.below other second.sound line within in
    let b = second.below one first.sound line within in
    omega arith

-- so their lines stand at the same places
pub one_place : (p : Problem) (one other : ℕ → ℕ) → IsLeast p one → IsLeast p other
    → (line : ℕ) → line ≤ p.count → place p one line ≡ place p other line
one_place p one other first second line within =
    same_place p one other line (λ k below. ap (p.width k) (one_least p one other first second k (omega arith)))

-- and the same branches reach
pub one_reach : (p : Problem) → IsLawful p → (one other : ℕ → ℕ) → IsLeast p one → IsLeast p other
    → (line : ℕ) → line < p.count → DoesReach p one line → DoesReach p other line
one_reach p lawful one other first second line within reach goal goes =
    let among : goal < p.count = lawful.goals line goal within goes in
    let form = one_least p one other first second line within in
    let here = one_place p one other first second line (omega arith) in
    let there = one_place p one other first second goal (omega arith) in
    let P : ℕ → ℕ → ℕ → Type 0 = λ f a b. p.reaches line f a b in
    subst (λ f. P f (place p other line) (place p other goal)) form
    (subst (λ a. P (one line) a (place p other goal)) here (subst (λ b. P (one line) (place p one line) b) there (reach goal goes)))

pub not_both : (p : Problem) → IsLawful p → (one other : ℕ → ℕ) → IsLeast p one → IsLeast p other
    → ((line : ℕ) → line < p.count → DoesReach p one line) → (line distance : ℕ) → ¬ IsLost p other line distance
not_both p lawful one other first second all line distance lost =
    lost.lost (one_reach p lawful one other first second line lost.within (all line lost.within))

pub same_some : (a b : ℕ) (o : Option ℕ) → o ≡ Some a → o ≡ Some b → a ≡ b
same_some a b o first second = cc

-- the first line that doesn't reach isn't behind another that doesn't
not_behind : (p : Problem) → IsLawful p → (one other : ℕ → ℕ) (line distance line' distance' : ℕ) → IsLeast p one
    → IsLeast p other → IsLost p one line distance → IsLost p other line' distance' → line' ≤ line
not_behind p lawful one other line distance line' distance' first second lost lost' = elim (cases_lt line line') [
  | inl less ↦ absurd (lost.lost (one_reach p lawful other one second first line lost.within (lost'.before line less)))
  | inr least ↦ least
]

-- two least assignments lack the same reach first
pub one_lost : (p : Problem) → IsLawful p → (one other : ℕ → ℕ) (line distance line' distance' : ℕ) → IsLeast p one
    → IsLeast p other → IsLost p one line distance → IsLost p other line' distance' → (line ≡ line') × (distance ≡ distance')
one_lost p lawful one other line distance line' distance' first second lost lost' =
    let a = not_behind p lawful one other line distance line' distance' first second lost lost' in
    let b = not_behind p lawful other one line' distance' line distance second first lost' lost in
    let same : line ≡ line' = omega arith in
    let goal : lost.goal ≡ lost'.goal = same_some lost.goal lost'.goal (p.goal line) lost.goes (ap p.goal same ∙ lost'.goes) in
    let within : line ≤ p.count = omega (arith, lost.within) in
    let among : lost.goal ≤ p.count = omega (arith, lawful.goals line lost.goal lost.within lost.goes) in
    let here : place p one line ≡ place p other line' = one_place p one other first second line within ∙ ap (place p other) same in
    let there : place p one lost.goal ≡ place p other lost'.goal
    = one_place p one other first second lost.goal among ∙ ap (place p other) goal in
    (same, lost.far ∙ ap (λ n. apart n (place p one lost.goal)) here ∙ ap (λ n. apart (place p other line') n) there ∙ sym lost'.far)

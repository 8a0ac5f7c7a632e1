-- Jumps among instructions of one byte.
use Rattle.std.specs.Prelude.{nat_lt, if◌then◌else◌, ◌==◌}
use Rattle.std.specs.List.{slice_get}
use Rattle.std.proofs.Common.{◌≡◌, ℕ, zero, suc, ◌+◌, ◌*◌, ◌^◌, ◌<◌, ◌≤◌, List, length, Option, Some, None, refl, sym, ◌∙◌, inl, inr, arith}
use Rattle.std.proofs.lemmas.Bool.{cases_lt}
use Rattle.std.proofs.lemmas.Bool.Decides.{nat_tests}
use Rattle.least_forms.specs.Problem.{Problem, HasRoom, all_long, place, apart}
use Rattle.least_forms.specs.Laws.{IsLawful, IsAsFar}

-- the line that a line jumps to, if that is one of so many
abbrev pub inside : ℕ → Option (Option ℕ) → Option ℕ
inside count None = None
inside count (Some None) = None
inside count (Some (Some goal)) = if nat_lt goal count then Some goal else None

abbrev pub width_of : Option ℕ → ℕ → ℕ
width_of None form = 1
width_of (Some goal) form = if form == 0 then 2 else 5

abbrev pub Reaches : ℕ → ℕ → ℕ → ℕ → Type 0
Reaches reach zero place goal = (goal ≤ place + 129) × (place ≤ goal + 126)
Reaches reach (suc form) place goal = apart place goal ≤ reach

unfoldable pub jumps_problem : List (Option ℕ) → ℕ → Problem
jumps_problem goals reach = record {
  count = length goals;
  quantum = 1;
  width = λ line. width_of (inside (length goals) (slice_get goals line));
  goal = λ line. inside (length goals) (slice_get goals line);
  reaches = λ line. Reaches reach;
}

some_same : {x y : ℕ} → Some x ≡ Some y → x ≡ y
some_same h = cc

none_some : {x : ℕ} → None ≡ Some x → ⊥
none_some h = cc

-- a width is at most 5
small_width : (goal : Option ℕ) → width_of goal 1 ≤ 5
small_width None = omega arith
small_width (Some goal) = omega arith

grows : (goal : Option ℕ) → width_of goal 0 ≤ width_of goal 1
grows None = omega arith
grows (Some goal) = omega arith

goal_below : (count : ℕ) (goal : Option (Option ℕ)) (found : ℕ) → inside count goal ≡ Some found → found < count
goal_below count None found is = cc
goal_below count (Some None) found is = cc
goal_below count (Some (Some goal)) found is = elim (cases_lt goal count) [
  | inl less ↦
      let kept : inside count (Some (Some goal)) ≡ Some goal = grind (arith, nat_tests) in
      let same : goal ≡ found = some_same (sym kept ∙ is) in
      rw (sym same) less
  | inr past ↦
      let lost : inside count (Some (Some goal)) ≡ None = grind (arith, nat_tests) in
      absurd (none_some (sym lost ∙ is))
]

few_below : (p : Problem) → ((line : ℕ) → p.width line 1 ≤ 5) → (line : ℕ) → place p all_long line ≤ 5 * line
unfolding place
few_below p small zero = omega arith
few_below p small (suc line) = let before = few_below p small line in let here = small line in omega arith

-- so many lines have room
pub few_fit : (goals : List (Option ℕ)) (reach : ℕ) → length goals ≤ 2 ^ 24 → HasRoom (jumps_problem goals reach)
unfolding jumps_problem
few_fit goals reach few =
    let all = few_below (jumps_problem goals reach) (λ line. small_width (inside (length goals) (slice_get goals line))) (length goals) in
    omega arith

nearer : (place goal from to : ℕ) → IsAsFar place goal from to → (to ≤ from + 129) × (from ≤ to + 126)
    → (goal ≤ place + 129) × (place ≤ goal + 126)
nearer place goal from to (inl far) reaches = let a = far.0 in let b = far.1 in let c = far.2 in let d = reaches.0 in (omega arith, omega arith)
nearer place goal from to (inr far) reaches = let a = far.0 in let b = far.1 in let c = far.2 in let d = reaches.1 in (omega arith, omega arith)

pub lawful_jumps : (goals : List (Option ℕ)) (reach : ℕ) → IsLawful (jumps_problem goals reach)
unfolding jumps_problem
lawful_jumps goals reach = record {
  quantum = inl refl;
  whole = λ line form most. omega arith;
  grows = λ line. grows (inside (length goals) (slice_get goals line));
  goals = λ line goal within goes. goal_below (length goals) (slice_get goals line) goal goes;
  nearer = λ line own place goal from to within goes placed origin far reaches. nearer place goal from to far reaches;
}

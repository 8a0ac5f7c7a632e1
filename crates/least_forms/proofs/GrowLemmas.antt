-- A line gets its long form.
use Rattle.std.proofs.Common.{◌≡◌, ◌≢◌, ℕ, zero, suc, Bool, false, ◌+◌, ◌-◌, ◌<◌, ◌≤◌, List, length, set, Some, sym, ap, subst, arith, inl, inr, get_or-set_other, get_or-set_same}
use Rattle.std.proofs.lemmas.Bool.{cases_lt}
use Rattle.least_forms.specs.Problem.{Problem, HasRoom, at, place}
use Rattle.least_forms.specs.Assignment.{IsSound}
use Rattle.least_forms.specs.Laws.{IsLawful, IsPlaced}
use Rattle.least_forms.specs.Work.{IsStart, IsShort, Spans, distance, ReachesOver, mark, IsWork, AllReach}
use Rattle.least_forms.proofs.PlaceLemmas.{same_place, rises, placed}
use Rattle.least_forms.proofs.ReachLemmas.{IsInOrder, over_places, places_over}
use Rattle.least_forms.proofs.LeastLemmas.{forced, set_at}

-- the places up to a line are those of an assignment that differs in that line alone
grown_before : (p : Problem) (one other : ℕ → ℕ) (line : ℕ) → ((k : ℕ) → k ≢ line → other k ≡ one k) → (k : ℕ) → k ≤ line
    → place p other k ≡ place p one k
grown_before p one other line same k most =
    same_place p other one k (λ i below. let differs : i ≢ line = omega arith in ap (p.width i) (same i differs))

-- behind it each place has moved by as much as the line has grown
grown_after : (p : Problem) (one other : ℕ → ℕ) (line : ℕ) → ((k : ℕ) → k ≢ line → other k ≡ one k) → (k : ℕ) → line < k
    → place p other k + p.width line (one line) ≡ place p one k + p.width line (other line)
unfolding place
grown_after p one other line same zero more = absurd (omega arith)
grown_after p one other line same (suc k) more = elim (cases_lt line k) [
  | inl behind ↦
      let before = grown_after p one other line same k behind in
      let differs : k ≢ line = omega arith in
      let here : p.width k (other k) ≡ p.width k (one k) = ap (p.width k) (same k differs) in
      omega arith
  | inr at_line ↦
      let here : k ≡ line = omega arith in
      let before = grown_before p one other line same line (omega arith) in
      rw here (omega arith)
]

-- what `set` leaves
others_same : (forms : List ℕ) (line : ℕ) → (k : ℕ) → k ≢ line → at (set forms line 1) k ≡ at forms k
others_same forms line k differs = get_or-set_other forms line k 1 0 differs

module _ (p : Problem) (lawful : IsLawful p) (forms : List ℕ) (line : ℕ) (inside : line < length forms) (short : at forms line ≡ 0) where
  before_line : (k : ℕ) → k ≤ line → place p (at (set forms line 1)) k ≡ place p (at forms) k
  before_line k most = grown_before p (at forms) (at (set forms line 1)) line (others_same forms line) k most

  behind_line : (k : ℕ) → line < k
      → place p (at (set forms line 1)) k ≡ place p (at forms) k + (p.width line 1 - p.width line 0)
  behind_line k more =
      let long : at (set forms line 1) line ≡ 1 = get_or-set_same forms line 1 0 inside in
      let moved = grown_after p (at forms) (at (set forms line 1)) line (others_same forms line) k more in
      let moved' = rw (long, short) at moved in
      let grows = lawful.grows line in
      omega arith

  -- a branch over the line is farther from its goal by as much as the line has grown
  pub grown_over : (branch goal : ℕ) → Spans branch goal line
      → distance p (set forms line 1) branch goal ≡ distance p forms branch goal + (p.width line 1 - p.width line 0)
  grown_over branch goal (inl (most, more)) =
      let here = before_line branch most in
      let there = behind_line goal more in
      let order = rises p (at forms) branch goal (omega arith) in
      omega arith
  grown_over branch goal (inr (most, more)) =
      let here = before_line goal most in
      let there = behind_line branch more in
      let order = rises p (at forms) goal branch (omega arith) in
      omega arith

  -- any other is as far from it as before
  pub grown_beside : (branch goal : ℕ) → ¬ Spans branch goal line
      → distance p (set forms line 1) branch goal ≡ distance p forms branch goal
  grown_beside branch goal beside = elim (cases_lt line branch) [
    | inl behind ↦ elim (cases_lt line goal) [
      | inl behind' ↦
          let here = behind_line branch behind in
          let there = behind_line goal behind' in
          omega arith
      | inr before' ↦ absurd (beside (inr (before', behind)))
    ]
    | inr before ↦ elim (cases_lt line goal) [
      | inl behind' ↦ absurd (beside (inl (before, behind')))
      | inr before' ↦
          let here = before_line branch before in
          let there = before_line goal before' in
          omega arith
    ]
  ]

  -- what is short now was short before
  pub was_short : (branch goal : ℕ) → IsShort p (set forms line 1) branch goal → IsShort p forms branch goal
  was_short branch goal now =
      let P : ℕ → Type 0 = λ form. form ≡ 0 → at forms branch ≡ 0 in
      let stays : at (set forms line 1) branch ≡ 0 → at forms branch ≡ 0
      = set_at forms line 1 branch P inside (λ same one. absurd (omega arith)) (λ differs zero. zero) in
      (now.0, now.1, stays now.2, now.3)

-- the order of places is that of lines
in_order : (p : Problem) (form : ℕ → ℕ) (line goal : ℕ) → IsInOrder line goal (place p form line) (place p form goal)
in_order p form line goal = elim (cases_lt goal line) [
  | inl back ↦ inr (back, rises p form goal line (omega arith))
  | inr ahead ↦ inl (ahead, rises p form line goal ahead)
]

stand : (p : Problem) → IsLawful p → HasRoom p → (forms : List ℕ) → IsStart p forms → (line goal : ℕ) → line < p.count
    → p.goal line ≡ Some goal → IsPlaced p.quantum (place p (at forms) line) (place p (at forms) goal)
stand p lawful room forms start line goal within goes =
    let among = lawful.goals line goal within goes in
    placed p lawful room (at forms) start.small line goal (omega arith) (omega arith)

-- a branch that doesn't reach over its distance has its long form in every sound assignment
pub lost_long : (p : Problem) → IsLawful p → HasRoom p → (forms : List ℕ) → IsStart p forms → (line goal far : ℕ)
    → IsShort p forms line goal → far ≡ distance p forms line goal → ¬ ReachesOver p line goal far
    → (other : ℕ → ℕ) → IsSound p other → other line ≡ 1
lost_long p lawful room forms start line goal far short exact lost =
    forced p lawful room (at forms) start.small start.below line goal short.0 short.1
    (λ reaches. lost (subst (ReachesOver p line goal) (sym exact)
    (over_places p lawful line goal (place p (at forms) line) (place p (at forms) goal) short.0 short.1
    (stand p lawful room forms start line goal short.0 short.1) (in_order p (at forms) line goal) reaches)))

-- where no mark is left, every branch that can move others reaches
pub all_reach : (p : Problem) → IsLawful p → HasRoom p → (forms distances : List ℕ) (marks : List Bool)
    → IsWork p forms distances marks → ((line : ℕ) → line < p.count → mark marks line ≡ false) → AllReach p forms
all_reach p lawful room forms distances marks work clean line goal short =
    places_over p lawful line goal (place p (at forms) line) (place p (at forms) goal) short.0 short.1
    (stand p lawful room forms work.start line goal short.0 short.1) (in_order p (at forms) line goal)
    (subst (ReachesOver p line goal) (work.exact line goal short) (work.unmarked line goal short (clean line short.0)))

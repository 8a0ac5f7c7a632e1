-- Branches that lose their short form all at once.
use Rattle.std.proofs.Common.{◌≡◌, ◌≢◌, ℕ, ◌+◌, ◌<◌, ◌≤◌, List, length, set, Some, refl, sym, ◌∙◌, ap, arith, inl, inr, get_or-set_other, get_or-set_same, below_more}
use Rattle.std.specs.Prelude.{slice_index}
use Rattle.std.proofs.lemmas.Bool.{cases_lt}
use Rattle.least_forms.specs.Problem.{Problem, HasRoom, at, place, apart}
use Rattle.least_forms.specs.Assignment.{DoesReach, IsLeast, IsLost}
use Rattle.least_forms.specs.Laws.{IsLawful}
use Rattle.least_forms.specs.Work.{IsStart, HasPlaces, AllReach, IsDropped}
use Rattle.least_forms.proofs.PlaceLemmas.{same_place}
use Rattle.least_forms.proofs.LeastLemmas.{forced, start_set}

-- how far the loop over the lines has come
pub record Dropping (p : Problem) (before after : List ℕ) (line : ℕ) : Type 0 where
  pub start : IsStart p after
  pub dropped : (k : ℕ) → k < line → IsDropped p before after k
  pub rest : (k : ℕ) → line ≤ k → at after k ≡ at before k

-- the line branches to a goal that its short form doesn't reach from where the list says that it stands
abbrev pub IsFar : Problem → List ℕ → ℕ → Type 0
IsFar p places line = (goal : ℕ) × (p.goal line ≡ Some goal)
    × ¬ p.reaches line 0 (slice_index places line) (slice_index places goal)

-- .. from where it stands
far_there : (p : Problem) → IsLawful p → (before places : List ℕ) → HasPlaces p before places → (line goal : ℕ) → line < p.count
    → p.goal line ≡ Some goal → ¬ p.reaches line 0 (slice_index places line) (slice_index places goal)
    → ¬ p.reaches line 0 (place p (at before) line) (place p (at before) goal)
far_there p lawful before places stands line goal within goes far =
    let among = lawful.goals line goal within goes in
    let here = stands.each line (omega arith) in
    let there = stands.each goal (omega arith) in
    rw (here, there) at far

near_there : (p : Problem) → IsLawful p → (before places : List ℕ) → HasPlaces p before places → (line goal : ℕ) → line < p.count
    → p.goal line ≡ Some goal → p.reaches line 0 (slice_index places line) (slice_index places goal)
    → p.reaches line 0 (place p (at before) line) (place p (at before) goal)
near_there p lawful before places stands line goal within goes near =
    let among = lawful.goals line goal within goes in
    let here = stands.each line (omega arith) in
    let there = stands.each goal (omega arith) in
    rw (here, there) at near

-- what was said of a line stays where another gets its long form
other_dropped : (p : Problem) (before forms : List ℕ) (line k : ℕ) → k < line → IsDropped p before forms k
    → IsDropped p before (set forms line 1) k
other_dropped p before forms line k below dropped =
    let differs : k ≢ line = omega arith in
    let same : at (set forms line 1) k ≡ at forms k = get_or-set_other forms line k 1 0 differs in
    record {
      kept = elim dropped.kept [ inl h ↦ inl (same ∙ h) | inr h ↦ inr (same ∙ h.0, h.1, h.2) ];
      reaches = λ goal goes short. dropped.reaches goal goes (sym same ∙ short);
    }

-- the line gets its long form
pub drop_far : (p : Problem) → IsLawful p → HasRoom p → (before forms places : List ℕ) → IsStart p before
    → HasPlaces p before places → (line : ℕ) → line < p.count → Dropping p before forms line → IsFar p places line
    → Dropping p before (set forms line 1) (line + 1)
drop_far p lawful room before forms places old stands line within so_far far =
    let inside : line < length forms = omega (arith, so_far.start.len) in
    let value : at (set forms line 1) line ≡ 1 = get_or-set_same forms line 1 0 inside in
    let lost = far_there p lawful before places stands line far.0 within far.1 far.2 in
    record {
      start = start_set p forms so_far.start line within
          (forced p lawful room (at before) old.small old.below line far.0 within far.1 lost);
      dropped = below_more _ _ (λ k below. other_dropped p before forms line k below (so_far.dropped k below)) (record {
        kept = elim (cases_lt (at before line) 1) [
          | inl short ↦ inr (value, omega arith, (far.0, far.1, lost))
          | inr long ↦ inl (let most = old.small line in omega arith)
        ];
        reaches = λ goal goes short. absurd (omega arith);
      });
      rest = λ k least. let differs : k ≢ line = omega arith in get_or-set_other forms line k 1 0 differs ∙ so_far.rest k (omega arith);
    }

-- the line keeps its form
pub keep_near : (p : Problem) → IsLawful p → (before forms places : List ℕ) → HasPlaces p before places → (line : ℕ)
    → line < p.count → Dropping p before forms line
    → ((goal : ℕ) → p.goal line ≡ Some goal → p.reaches line 0 (slice_index places line) (slice_index places goal))
    → Dropping p before forms (line + 1)
keep_near p lawful before forms places stands line within so_far near = record {
  start = so_far.start;
  dropped = below_more _ _ so_far.dropped (record {
    kept = inl (so_far.rest line (omega arith));
    reaches = λ goal goes short. near_there p lawful before places stands line goal within goes (near goal goes);
  });
  rest = λ k least. so_far.rest k (omega arith);
}

-- where every branch that can move others reaches, a form that was lost is as long as the one before
same_width : (p : Problem) → IsLawful p → (before after : List ℕ) → AllReach p before → (line : ℕ) → line < p.count
    → IsDropped p before after line → p.width line (at after line) ≡ p.width line (at before line)
same_width p lawful before after all line within dropped = elim dropped.kept [
  | inl same ↦ ap (p.width line) same
  | inr lost ↦ elim (cases_lt (p.width line 0) (p.width line 1)) [
    | inl longer ↦ absurd (lost.2.2 (all line lost.2.0 (within, lost.2.1, lost.1, longer)))
    | inr equal ↦ let grows = lawful.grows line in rw (lost.0, lost.1) (omega arith)
  ]
]

-- so that what is left is the least assignment
pub least_left : (p : Problem) → IsLawful p → (before after : List ℕ) → AllReach p before → IsStart p after
    → ((line : ℕ) → line < p.count → IsDropped p before after line) → IsLeast p (at after)
least_left p lawful before after all start dropped =
    let stays : (k : ℕ) → k ≤ p.count → place p (at before) k ≡ place p (at after) k
    = λ k most. same_place p (at before) (at after) k
    (λ line below. let within : line < p.count = omega arith in
    sym (same_width p lawful before after all line within (dropped line within))) in
    record {
      sound = record {
        forms = start.small;
        others = start.others;
        short = λ line goal within goes short.
            let among = lawful.goals line goal within goes in
            let here = stays line (omega arith) in
            let there = stays goal (omega arith) in
            rw (here, there) at ((dropped line within).reaches goal goes short);
      };
      below = start.below;
    }

-- whether a branch reaches where the list says that it stands is whether it reaches
pub does_reach : (p : Problem) → IsLawful p → (forms places : List ℕ) → HasPlaces p forms places → (line : ℕ) → line < p.count
    → ((goal : ℕ) → p.goal line ≡ Some goal
    → p.reaches line (at forms line) (slice_index places line) (slice_index places goal))
    → DoesReach p (at forms) line
does_reach p lawful forms places stands line within reaches goal goes =
    let among = lawful.goals line goal within goes in
    let here = stands.each line (omega arith) in
    let there = stands.each goal (omega arith) in
    rw (here, there) at (reaches goal goes)

-- the first branch that doesn't reach
pub first_far : (p : Problem) → IsLawful p → (forms places : List ℕ) → HasPlaces p forms places → (line far : ℕ) → line < p.count
    → ((k : ℕ) → k < line → DoesReach p (at forms) k)
    → ((goal : ℕ) × (p.goal line ≡ Some goal)
    × ¬ p.reaches line (at forms line) (slice_index places line) (slice_index places goal))
    → ((goal : ℕ) → p.goal line ≡ Some goal → far ≡ apart (slice_index places line) (slice_index places goal))
    → IsLost p (at forms) line far
first_far p lawful forms places stands line far within before lost distance =
    let goal = lost.0 in
    let goes = lost.1 in
    let among = lawful.goals line goal within goes in
    let here = stands.each line (omega arith) in
    let there = stands.each goal (omega arith) in
    let missed = rw (here, there) at lost.2 in
    record {
      within = within;
      lost = λ reach. missed (reach goal goes);
      before = before;
      goal = goal;
      goes = goes;
      far = rw (here, there) at (distance goal goes);
    }

-- no line has been looked at
pub none_dropped : (p : Problem) (forms : List ℕ) → IsStart p forms → Dropping p forms forms 0
none_dropped p forms start = record { start = start; dropped = λ k below. absurd (omega arith); rest = λ k least. refl }

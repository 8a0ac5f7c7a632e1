-- The loops over the marked lines and over the lines around one that has grown.
use Rattle.std.proofs.Common.{◌≡◌, ◌≢◌, ◌⊎◌, ℕ, Bool, true, false, ◌+◌, ◌-◌, ◌<◌, ◌≤◌, ◌^◌, List, length, set, refl, sym, ◌∙◌, ap, subst, arith, inl, inr, length-set, get_or-set_other, get_or-set_same, below_more, replicate}
use Rattle.std.proofs.lemmas.Bool.{cases_lt}
use Rattle.std.proofs.lemmas.List.{get_or-replicate, length-replicate}
use Rattle.std.proofs.lemmas.List.Sums.{sum_by-set}
use Rattle.least_forms.specs.Problem.{Problem, HasRoom, at}
use Rattle.least_forms.specs.Laws.{IsLawful}
use Rattle.least_forms.specs.Work.{IsStart, HasPlaces, HasDistances, IsShort, Spans, Touches, ReachesOver, mark, IsWork, IsWindow, shorts}
use Rattle.least_forms.proofs.PlaceLemmas.{place_small}
use Rattle.least_forms.proofs.LeastLemmas.{start_set, same_some}
use Rattle.least_forms.proofs.GrowLemmas.{grown_over, grown_beside, was_short, lost_long}

-- no line before the cursor has a mark
pub record Scanning (p : Problem) (forms distances : List ℕ) (marks : List Bool) (from : ℕ) : Type 0 where
  pub work : IsWork p forms distances marks
  pub clean : (k : ℕ) → k < from → mark marks k ≡ false

-- a line whose mark isn't needed, or isn't set, is passed
pub pass_marked : (p : Problem) (forms distances : List ℕ) (marks : List Bool) (line : ℕ) → line < p.count
    → Scanning p forms distances marks line
    → ((goal : ℕ) → IsShort p forms line goal → ReachesOver p line goal (at distances line))
    → Scanning p forms distances (set marks line false) (line + 1)
pass_marked p forms distances marks line within scanning reaches =
    let inside : line < length marks = omega (arith, scanning.work.len_marks) in
    let others : (k : ℕ) → k ≢ line → mark (set marks line false) k ≡ mark marks k
    = λ k differs. get_or-set_other marks line k false false differs in
    record {
      work = record {
        start = scanning.work.start;
        len_distances = scanning.work.len_distances;
        len_marks = length-set marks line false ∙ scanning.work.len_marks;
        exact = scanning.work.exact;
        unmarked = λ k goal short clean. elim (cases_lt k line) [
          | inl less ↦ let differs : k ≢ line = omega arith in scanning.work.unmarked k goal short (sym (others k differs) ∙ clean)
          | inr least ↦ elim (cases_lt line k) [
            | inl more ↦ let differs : k ≢ line = omega arith in scanning.work.unmarked k goal short (sym (others k differs) ∙ clean)
            | inr most ↦
                let same : line ≡ k = omega arith in
                let P : ℕ → Type 0 = λ i. IsShort p forms i goal → ReachesOver p i goal (at distances i) in
                subst P same (reaches goal) short
          ]
        ];
      };
      clean = λ k below. elim (cases_lt k line) [
        | inl less ↦ let differs : k ≢ line = omega arith in others k differs ∙ scanning.clean k less
        | inr least ↦
            let same : k ≡ line = omega arith in
            ap (mark (set marks line false)) same ∙ get_or-set_same marks line false false inside
      ];
    }

pub pass_unmarked : (p : Problem) (forms distances : List ℕ) (marks : List Bool) (line : ℕ)
    → Scanning p forms distances marks line → mark marks line ≡ false → Scanning p forms distances marks (line + 1)
pass_unmarked p forms distances marks line scanning clean = record {
  work = scanning.work;
  clean = below_more _ _ scanning.clean clean;
}

-- a branch over the grown line, among the lines that have been looked at
pub record IsHit (p : Problem) (forms : List ℕ) (line first index k : ℕ) : Type 0 where
  pub touches : Touches p forms k line
  pub least : first ≤ k
  pub most : k < index

-- how far the loop over the lines around the grown one has come
pub record Growing (p : Problem) (forms : List ℕ) (line growth first index : ℕ) (old distances : List ℕ) (before marks : List Bool) : Type 0 where
  pub len_distances : length distances ≡ length old
  pub len_marks : length marks ≡ length before
  pub hit : (k : ℕ) → IsHit p forms line first index k → (at distances k ≡ at old k + growth) × (mark marks k ≡ true)
  pub miss : (k : ℕ) → ¬ IsHit p forms line first index k → (at distances k ≡ at old k) × (mark marks k ≡ mark before k)

-- nothing has been looked at
pub none_hit : (p : Problem) (forms : List ℕ) (line growth first : ℕ) (old : List ℕ) (before : List Bool)
    → Growing p forms line growth first first old old before before
none_hit p forms line growth first old before = record {
  len_distances = refl;
  len_marks = refl;
  hit = λ k is. let least = is.least in let most = is.most in absurd (omega arith);
  miss = λ k not. (refl, refl);
}

-- what is hit among more lines, but for the last, is hit among fewer
fewer : (p : Problem) (forms : List ℕ) (line first index k : ℕ) → IsHit p forms line first (index + 1) k → k ≢ index
    → IsHit p forms line first index k
fewer p forms line first index k is differs =
    record { touches = is.touches; least = is.least; most = let most = is.most in omega arith }

more : (p : Problem) (forms : List ℕ) (line first index k : ℕ) → IsHit p forms line first index k
    → IsHit p forms line first (index + 1) k
more p forms line first index k is =
    record { touches = is.touches; least = is.least; most = let most = is.most in omega arith }

-- a branch over the line gets its new distance, and a mark
pub hit_one : (p : Problem) (forms : List ℕ) (line growth first index : ℕ) (old distances : List ℕ) (before marks : List Bool)
    → index < length old → index < length before → first ≤ index
    → Growing p forms line growth first index old distances before marks → Touches p forms index line
    → Growing p forms line growth first (index + 1) old (set distances index (at distances index + growth)) before (set marks index true)
hit_one p forms line growth first index old distances before marks inside inside' least growing touches =
    let inside_distances : index < length distances = omega (arith, growing.len_distances) in
    let inside_marks : index < length marks = omega (arith, growing.len_marks) in
    let far = set distances index (at distances index + growth) in
    let marked = set marks index true in
    let here : at far index ≡ at distances index + growth = get_or-set_same distances index (at distances index + growth) 0 inside_distances in
    let here' : mark marked index ≡ true = get_or-set_same marks index true false inside_marks in
    let there : (k : ℕ) → k ≢ index → at far k ≡ at distances k
    = λ k differs. get_or-set_other distances index k (at distances index + growth) 0 differs in
    let there' : (k : ℕ) → k ≢ index → mark marked k ≡ mark marks k
    = λ k differs. get_or-set_other marks index k true false differs in
    let now : IsHit p forms line first (index + 1) index = record { touches = touches; least = least; most = omega arith } in
    record {
      len_distances = length-set distances index (at distances index + growth) ∙ growing.len_distances;
      len_marks = length-set marks index true ∙ growing.len_marks;
      hit = λ k is. elim (cases_lt k index) [
        | inl less ↦
            let differs : k ≢ index = omega arith in
            let found = growing.hit k (fewer p forms line first index k is differs) in
            (there k differs ∙ found.0, there' k differs ∙ found.1)
        | inr at_index ↦
            let most = is.most in
            let same : k ≡ index = omega arith in
            let past : ¬ IsHit p forms line first index index = λ early. let below = early.most in omega arith in
            let found = growing.miss index past in
            let P : ℕ → Type 0 = λ i. (at far i ≡ at old i + growth) × (mark marked i ≡ true) in
            subst P (sym same) (here ∙ ap (λ n. n + growth) found.0, here')
      ];
      miss = λ k not.
          let differs : k ≢ index = λ same. not (subst (IsHit p forms line first (index + 1)) (sym same) now) in
          let found = growing.miss k (λ is. not (more p forms line first index k is)) in
          (there k differs ∙ found.0, there' k differs ∙ found.1);
    }

-- any other line is passed
pub miss_one : (p : Problem) (forms : List ℕ) (line growth first index : ℕ) (old distances : List ℕ) (before marks : List Bool)
    → Growing p forms line growth first index old distances before marks → ¬ Touches p forms index line
    → Growing p forms line growth first (index + 1) old distances before marks
miss_one p forms line growth first index old distances before marks growing apart_from = record {
  len_distances = growing.len_distances;
  len_marks = growing.len_marks;
  hit = λ k is.
      let differs : k ≢ index
      = λ same. apart_from (subst (λ i. Touches p forms i line) same is.touches) in
      growing.hit k (fewer p forms line first index k is differs);
  miss = λ k not. growing.miss k (λ is. not (more p forms line first index k is));
}

true_not_false : ¬ (true ≡ false)
true_not_false h = cc

-- a branch goes over a line, or not
spans_or_not : (line goal between : ℕ) → Spans line goal between ⊎ ¬ Spans line goal between
spans_or_not line goal between = elim (cases_lt between line) [
  | inl before ↦ elim (cases_lt between goal) [
    | inl before' ↦ inr (λ spans. elim spans [ inl h ↦ let least = h.0 in omega arith | inr h ↦ let least = h.0 in omega arith ])
    | inr behind' ↦ inl (inr (behind', before))
  ]
  | inr behind ↦ elim (cases_lt between goal) [
    | inl before' ↦ inl (inl (behind, before'))
    | inr behind' ↦ inr (λ spans. elim spans [ inl h ↦ let most = h.1 in omega arith | inr h ↦ let most = h.1 in omega arith ])
  ]
]

-- a new distance fits 32 bits
pub fits_grown : (p : Problem) → IsLawful p → HasRoom p → (forms distances : List ℕ) (marks : List Bool) (line k : ℕ)
    → IsWork p forms distances marks → line < p.count → at forms line ≡ 0 → IsStart p (set forms line 1)
    → Touches p (set forms line 1) k line → at distances k + (p.width line 1 - p.width line 0) < 2 ^ 32
fits_grown p lawful room forms distances marks line k work within zero start touches =
    let goal = touches.0 in
    let inside : line < length forms = omega (arith, work.start.len) in
    let now : IsShort p (set forms line 1) k goal = touches.1 in
    let was = was_short p lawful forms line inside zero k goal now in
    let exact = work.exact k goal was in
    let moved = grown_over p lawful forms line inside zero k goal touches.2 in
    let among = lawful.goals k goal now.0 now.1 in
    let here = place_small p lawful room (at (set forms line 1)) start.small k (omega arith) in
    let there = place_small p lawful room (at (set forms line 1)) start.small goal (omega arith) in
    omega arith

-- the state behind the loop
pub grown_work : (p : Problem) → IsLawful p → HasRoom p → (forms old distances : List ℕ) (before marks : List Bool) (line window first end : ℕ)
    → IsWork p forms old before → IsWindow p forms window → line < p.count → at forms line ≡ 0 → IsStart p (set forms line 1)
    → first ≡ line - window → ((k : ℕ) → k ≤ line + window → k < p.count → k < end)
    → Growing p (set forms line 1) line (p.width line 1 - p.width line 0) first end old distances before marks
    → IsWork p (set forms line 1) distances marks
grown_work p lawful room forms old distances before marks line window first end work near within zero start from up_to growing =
    let inside : line < length forms = omega (arith, work.start.len) in
    let growth = p.width line 1 - p.width line 0 in
    let after = set forms line 1 in
    let hits : (k goal : ℕ) → IsShort p after k goal → Spans k goal line → IsHit p after line first end k
    = λ k goal now spans.
    let close = near k goal (was_short p lawful forms line inside zero k goal now) in
    let below = now.0 in
    let range : (first ≤ k) × (k ≤ line + window)
    = elim spans [
      | inl h ↦ let a = h.0 in let b = h.1 in (omega arith, omega arith)
      | inr h ↦ let a = h.0 in let b = h.1 in (omega arith, omega arith)
    ] in
    record { touches = (goal, now, spans); least = range.0; most = up_to k range.1 below } in
    let misses : (k goal : ℕ) → IsShort p after k goal → ¬ Spans k goal line → ¬ IsHit p after line first end k
    = λ k goal now beside is.
    let same : is.touches.0 ≡ goal = same_some is.touches.0 goal (p.goal k) is.touches.1.1 now.1 in
    beside (subst (λ g. Spans k g line) same is.touches.2) in
    record {
      start = start;
      len_distances = growing.len_distances ∙ work.len_distances;
      len_marks = growing.len_marks ∙ work.len_marks;
      exact = λ k goal now.
          let was = was_short p lawful forms line inside zero k goal now in
          elim (spans_or_not k goal line) [
            | inl spans ↦
                (growing.hit k (hits k goal now spans)).0 ∙ ap (λ n. n + growth) (work.exact k goal was)
                ∙ sym (grown_over p lawful forms line inside zero k goal spans)
            | inr beside ↦
                (growing.miss k (misses k goal now beside)).0 ∙ work.exact k goal was
                ∙ sym (grown_beside p lawful forms line inside zero k goal beside)
          ];
      unmarked = λ k goal now clean. elim (spans_or_not k goal line) [
        | inl spans ↦ let marked = (growing.hit k (hits k goal now spans)).1 in absurd (true_not_false (sym marked ∙ clean))
        | inr beside ↦
            let found = growing.miss k (misses k goal now beside) in
            let was = was_short p lawful forms line inside zero k goal now in
            subst (ReachesOver p k goal) (sym found.0) (work.unmarked k goal was (sym found.1 ∙ clean))
      ];
    }

-- a window stays one
pub grown_window : (p : Problem) → IsLawful p → (forms : List ℕ) (line window : ℕ) → IsWindow p forms window → line < length forms
    → at forms line ≡ 0 → IsWindow p (set forms line 1) window
grown_window p lawful forms line window near inside zero k goal now =
    near k goal (was_short p lawful forms line inside zero k goal now)

-- marks away from the line stay
pub grown_marks : (p : Problem) (forms : List ℕ) (line growth window first end : ℕ) (old distances : List ℕ) (before marks : List Bool)
    → first ≡ line - window → Growing p forms line growth first end old distances before marks
    → (k : ℕ) → k + window < line → mark marks k ≡ mark before k
grown_marks p forms line growth window first end old distances before marks from growing k away =
    (growing.miss k (λ is. let least = is.least in omega arith)).1

-- one short form is gone
pub grown_shorts : (forms : List ℕ) (line : ℕ) → line < length forms → at forms line ≡ 0
    → shorts (set forms line 1) < shorts forms
grown_shorts forms line inside zero =
    let moved = sum_by-set (λ form. 1 - form) forms line 1 0 inside in
    let moved' = rw zero at moved in
    omega arith

-- a branch that has lost its reach
abbrev pub IsLostOver : Problem → List ℕ → List ℕ → ℕ → Type 0
IsLostOver p forms distances line =
    (goal : ℕ) × IsShort p forms line goal × ¬ ReachesOver p line goal (at distances line)

-- it gets its long form
pub grown_start : (p : Problem) → IsLawful p → HasRoom p → (forms distances : List ℕ) (marks : List Bool) (line : ℕ)
    → IsWork p forms distances marks → IsLostOver p forms distances line → IsStart p (set forms line 1)
grown_start p lawful room forms distances marks line work lost =
    start_set p forms work.start line lost.1.0
    (lost_long p lawful room forms work.start line lost.0 (at distances line) lost.1 (work.exact line lost.0 lost.1) lost.2)

-- every line is marked at first
pub first_work : (p : Problem) → IsLawful p → (forms places distances : List ℕ) (marks : List Bool) → IsStart p forms
    → HasPlaces p forms places → HasDistances p places distances → marks ≡ replicate p.count true → IsWork p forms distances marks
first_work p lawful forms places distances marks start stands far all = record {
  start = start;
  len_distances = far.len;
  len_marks = ap length all ∙ length-replicate p.count true;
  exact = λ line goal short.
      let within = short.0 in
      let among = lawful.goals line goal short.0 short.1 in
      let here = stands.each line (omega arith) in
      let there = stands.each goal (omega arith) in
      rw (here, there) at (far.each line goal short.0 short.1);
  unmarked = λ line goal short clean.
      let marked : mark marks line ≡ true = ap (λ m. mark m line) all ∙ get_or-replicate p.count line true false short.0 in
      absurd (true_not_false (sym marked ∙ clean));
}

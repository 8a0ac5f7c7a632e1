-- A table's values are spread over stretches exactly where it covers them, and there is one way.
use Rattle.std.proofs.Common.{◌≡◌, ◌≢◌, ℕ, zero, suc, ℤ, ◌<◌, ◌≤◌, ◌==◌, Bool, true, false, List, [], ◌∷◌, length, drop, Option, Some, None, ◌⊎◌, inl, inr, refl, sym, ap, subst, ◌∙◌, arith}
use Rattle.std.proofs.lemmas.Bool.{le-ltb, lt-ltb, cases_lt}
use Rattle.std.proofs.lemmas.Bool.Decides.{nat_tests}
use Rattle.std.specs.Option.{option_map}
use Rattle.std.specs.List.{slice_get}
use Rattle.pcvalue.specs.declared.run.Run.{Run}
use Rattle.pcvalue.specs.declared.answer.Answer.TheVariants.{Value, Past}
use Rattle.pcvalue.specs.Runs.{Point, Reading, Another, Finished, Fault, runs_within, runs_of, start}
use Rattle.pcvalue.specs.Table.{value_of, runs_at}
use Rattle.pcvalue.specs.Least.{is_least_within, is_least_form, IsLeastForm}
use Rattle.pcvalue.specs.Cover.{Ascends, Covers, TellsOver, HasOneList, AnswersPlaces}
use Rattle.pcvalue.specs.Spread.{spread, least_run, behind_stretch}
use Rattle.pcvalue.proofs.ValueLemmas.{looked_up}
use Rattle.pcvalue.proofs.LeftLemmas.{both, same, Left, Rise, Begins, begins, all_left, left_all, left_rises}

-- a run that ends before a stretch begins says nothing of it
covers_more : (from : ℕ) (ends : List ℕ) (values : List ℤ) (run : Run) (runs : List Run)
    → run.end ≤ from → Ascends from ends → Covers from ends values runs → Covers from ends values (run ∷ runs)
covers_more from [] [] run runs before rising covers =
    λ place behind. rw (le-ltb place run.end (omega arith)) (covers place behind)
covers_more from [] (value ∷ values) run runs before rising covers = absurd covers
covers_more from (end ∷ ends) [] run runs before rising covers = absurd covers
covers_more from (end ∷ ends) (value ∷ values) run runs before rising covers =
    let longer : from < end = rising.0 in (
      λ place behind inside. rw (le-ltb place run.end (omega arith)) (covers.0 place behind inside),
      covers_more end ends values run runs (omega arith) rising.1 covers.1,
    )

covers_less : (from : ℕ) (ends : List ℕ) (values : List ℤ) (run : Run) (runs : List Run)
    → run.end ≤ from → Ascends from ends → Covers from ends values (run ∷ runs) → Covers from ends values runs
covers_less from [] [] run runs before rising covers =
    λ place behind. rw (le-ltb place run.end (omega arith)) at (covers place behind)
covers_less from [] (value ∷ values) run runs before rising covers = absurd covers
covers_less from (end ∷ ends) [] run runs before rising covers = absurd covers
covers_less from (end ∷ ends) (value ∷ values) run runs before rising covers =
    let longer : from < end = rising.0 in (
      λ place behind inside. rw (le-ltb place run.end (omega arith)) at (covers.0 place behind inside),
      covers_less end ends values run runs (omega arith) rising.1 covers.1,
    )

less_by : (a b c d : ℕ) → a < b → b < c → c ≡ d → a < d
less_by a b c d one two is = omega arith

less_is : (a b c : ℕ) → a < b → b ≡ c → a < c
less_is a b c one is = omega arith

less_from : (a b c : ℕ) → a < c → a ≡ b → b < c
less_from a b c one is = omega arith

le_is : (a b c : ℕ) → a ≡ b → b ≡ c → c ≤ a
le_is a b c one two = omega arith

less_le : (a b : ℕ) → a < b → a ≤ b
less_le a b one = omega arith

none_some : (values : List ℤ) → None ≡ Some values → ⊥
none_some values is = cc

same_some : (values others : List ℤ) → Some values ≡ Some others → values ≡ others
same_some values others is = cc

consed : (first value : ℤ) (o : Option (List ℤ)) (values : List ℤ) → first ≡ value → o ≡ Some values
    → option_map (λ rest. first ∷ rest) o ≡ Some (value ∷ values)
consed first value o values is some = rw (some, is) refl

other : (a b : ℕ) → (a == b) ≡ false → a ≢ b
other a b is = grind (arith, nat_tests)

behind_by : (quantum : ℕ) (point : Point) (end : ℕ) (test : Bool) → (end == point.run.end) ≡ test → point.run.end ≤ end
    → ((end ≡ point.run.end) × (behind_stretch quantum point end ≡ least_run quantum false point))
    ⊎ ((point.run.end < end) × (behind_stretch quantum point end ≡ Fault))
unfolding behind_stretch
behind_by quantum point end true is late =
    inl (same end point.run.end is, rw (le-ltb _ _ late, is) refl)
behind_by quantum point end false is late =
    let differs : end ≢ point.run.end = other end point.run.end is in
    inr (omega (arith, late, differs), rw (le-ltb _ _ late, is) refl)

behind_within : (quantum : ℕ) (point : Point) (end : ℕ) → end < point.run.end → behind_stretch quantum point end ≡ Another point
unfolding behind_stretch
behind_within quantum point end inside = rw (lt-ltb _ _ inside) refl

-- where a stretch of a run ends: within the run, with it, or behind it
behind_cases : (quantum : ℕ) (point : Point) (end : ℕ)
    → ((end < point.run.end) × (behind_stretch quantum point end ≡ Another point))
    ⊎ (((end ≡ point.run.end) × (behind_stretch quantum point end ≡ least_run quantum false point))
    ⊎ ((point.run.end < end) × (behind_stretch quantum point end ≡ Fault)))
behind_cases quantum point end =
    elim (cases_lt end point.run.end) [
      | inl inside ↦ inl (inside, behind_within quantum point end inside)
      | inr late ↦ inr (behind_by quantum point end (end == point.run.end) refl late)
    ]

-- the runs of a reading cover the stretches
abbrev Spreads : ℕ → Reading → ℕ → List ℕ → List ℤ → Type 0
Spreads quantum reading from ends values = (runs : List Run) × Left quantum reading runs × Covers from ends values runs

covers_within : (quantum : ℕ) (point : Point) (from end : ℕ) (ends : List ℕ) (values : List ℤ) (runs : List Run)
    → end < point.run.end → Left quantum (Another point) runs → Covers end ends values runs
    → Spreads quantum (Another point) from (end ∷ ends) (point.run.value ∷ values)
covers_within quantum point from end ends values [] inside left covers = cc
covers_within quantum point from end ends values (run ∷ runs) inside left covers =
    let is : point ≡ left.0 = cc in
    let run_is : point.run ≡ run = ap (λ p. p.run) is ∙ left.2 in (
      run ∷ runs,
      left,
      (
        λ place _ before.
            let within : place < run.end = less_by place end point.run.end run.end before inside (ap (λ r. r.end) run_is) in
            rw (lt-ltb place run.end within) (ap Value (sym (ap (λ r. r.value) run_is))),
        covers,
      ),
    )

covers_up_to : (quantum : ℕ) (point : Point) (from end : ℕ) (ends : List ℕ) (values : List ℤ) (runs : List Run)
    → end ≡ point.run.end → Ascends end ends → Left quantum (least_run quantum false point) runs → Covers end ends values runs
    → Spreads quantum (Another point) from (end ∷ ends) (point.run.value ∷ values)
covers_up_to quantum point from end ends values runs is rising left covers = (
  point.run ∷ runs,
  (point, refl, refl, left),
  (
    λ place _ before. rw (lt-ltb place point.run.end (omega arith)) refl,
    covers_more end ends values point.run runs (omega arith) rising covers,
  ),
)

stretch_covers : (quantum : ℕ) (point : Point) (from end : ℕ) (ends : List ℕ) (values : List ℤ)
    → Ascends end ends → spread quantum (behind_stretch quantum point end) ends ≡ Some values
    → Spreads quantum (behind_stretch quantum point end) end ends values
    → Spreads quantum (Another point) from (end ∷ ends) (point.run.value ∷ values)
unfolding spread
stretch_covers quantum point from end ends values rising is rest =
    elim (behind_cases quantum point end) [
      | inl within ↦ covers_within quantum point from end ends values rest.0 within.0 (rw within.1 at rest.1) rest.2
      | inr (inl upto) ↦ covers_up_to quantum point from end ends values rest.0 upto.0 rising (rw upto.1 at rest.1) rest.2
      | inr (inr past) ↦ absurd (none_some values (rw past.1 at is))
    ]

some_mapped : (f : List ℤ → List ℤ) (o : Option (List ℤ)) (values : List ℤ) → option_map f o ≡ Some values
    → (rest : List ℤ) × (o ≡ Some rest) × (f rest ≡ values)
some_mapped f (Some rest) values is = (rest, refl, cc)
some_mapped f None values is = cc

-- values that were spread cover the stretches
spread_covers : (quantum : ℕ) (reading : Reading) (from : ℕ) (ends : List ℕ) (values : List ℤ)
    → Ascends from ends → spread quantum reading ends ≡ Some values → Spreads quantum reading from ends values
unfolding spread
spread_covers quantum (Another point) from [] values rising is = cc
spread_covers quantum (Another point) from (end ∷ ends) values rising is =
    let rest = some_mapped (λ values. point.run.value ∷ values) (spread quantum (behind_stretch quantum point end) ends) values is in
    let covered = stretch_covers quantum point from end ends rest.0 rising.1 rest.1
    (spread_covers quantum (behind_stretch quantum point end) end ends rest.0 rising.1 rest.1) in
    subst (λ values. Spreads quantum (Another point) from (end ∷ ends) values) rest.2 covered
spread_covers quantum Finished from [] [] rising is = ([], refl, λ place behind. refl)
spread_covers quantum Finished from [] (value ∷ values) rising is = cc
spread_covers quantum Finished from (end ∷ ends) values rising is = cc
spread_covers quantum Fault from [] values rising is = cc
spread_covers quantum Fault from (end ∷ ends) values rising is = cc

-- the first of the runs ends behind a place, and each later one behind the one before it, with another value
abbrev Ahead : ℕ → List Run → Type 0
Ahead from [] = Unit {0}
Ahead from (run ∷ runs) = (from < run.end) × Rise run runs

rise_ahead : (run : Run) (runs : List Run) → Rise run runs → Ahead run.end runs
rise_ahead run [] rises = tt
rise_ahead run (next ∷ runs) rises = (rises.0, rises.2)

left_ahead : (quantum : ℕ) (first : Bool) (point : Point) (runs : List Run)
    → Left quantum (least_run quantum first point) runs → Ahead point.run.end runs
left_ahead quantum first point [] left = tt
left_ahead quantum first point (run ∷ runs) left =
    let b : Begins quantum first point left.0 = begins quantum first point left.0 left.1 in
    (rw left.2 at b.longer, rw left.2 at (left_rises quantum left.0 runs left.3))

first_value : (from : ℕ) (run : Run) (runs : List Run) (value : ℤ)
    → from < run.end → value_of from (run ∷ runs) true ≡ Value value → run.value ≡ value
first_value from run runs value inside is =
    let here : Value run.value ≡ Value value = rw (lt-ltb from run.end inside) at is in
    cc

-- a stretch doesn't go on behind the run that has its beginning
stays : (run : Run) (runs : List Run) → Rise run runs → value_of run.end (run ∷ runs) true ≢ Value run.value
stays run [] rises is =
    let past : Past ≡ Value run.value = rw (le-ltb run.end run.end (omega arith)) at is in
    cc
stays run (next ∷ runs) rises is =
    let behind : value_of run.end (next ∷ runs) true ≡ Value run.value = rw (le-ltb run.end run.end (omega arith)) at is in
    absurd (rises.1 (first_value run.end next runs run.value rises.0 behind))

-- values that cover the stretches are spread
covers_spread : (quantum : ℕ) (reading : Reading) (runs : List Run) (from : ℕ) (ends : List ℕ) (values : List ℤ)
    → Left quantum reading runs → Ahead from runs → Ascends from ends → Covers from ends values runs
    → spread quantum reading ends ≡ Some values
unfolding spread
covers_spread quantum reading [] from [] [] left ahead rising covers = rw left refl
covers_spread quantum reading (run ∷ runs) from [] [] left ahead rising covers =
    let past : Value run.value ≡ Past = rw (lt-ltb from run.end ahead.0) at (covers from (omega arith)) in
    cc
covers_spread quantum reading runs from [] (value ∷ values) left ahead rising covers = absurd covers
covers_spread quantum reading runs from (end ∷ ends) [] left ahead rising covers = absurd covers
covers_spread quantum reading [] from (end ∷ ends) (value ∷ values) left ahead rising covers =
    let past : Past ≡ Value value = covers.0 from (omega arith) rising.0 in
    cc
covers_spread quantum reading (run ∷ runs) from (end ∷ ends) (value ∷ values) left ahead rising covers =
    let here : run.value ≡ value = first_value from run runs value ahead.0 (covers.0 from (omega arith) rising.0) in
    let run_is : left.0.run ≡ run = left.2 in
    let end_is : left.0.run.end ≡ run.end = ap (λ r. r.end) run_is in
    let value_is : left.0.run.value ≡ value = ap (λ r. r.value) run_is ∙ here in
    rw left.1 (consed left.0.run.value value (spread quantum (behind_stretch quantum left.0 end) ends) values value_is
    (elim (behind_cases quantum left.0 end) [
      | inl within ↦
          rw (within.1)
          (covers_spread quantum (Another left.0) (run ∷ runs) end ends values
          (left.0, refl, left.2, left.3) (less_is end left.0.run.end run.end within.0 end_is, ahead.1) rising.1 covers.1)
      | inr (inl upto) ↦
          rw (upto.1)
          (covers_spread quantum (least_run quantum false left.0) runs end ends values
          left.3 (subst (λ e. Ahead e runs) (sym (upto.0 ∙ end_is)) (rise_ahead run runs ahead.1)) rising.1
          (covers_less end ends values run runs (le_is end left.0.run.end run.end upto.0 end_is) rising.1 covers.1))
      | inr (inr past) ↦
          absurd (stays run runs ahead.1
          (covers.0 run.end (less_le from run.end ahead.0) (less_from left.0.run.end run.end end past.0 end_is)
          ∙ ap Value (sym here)))
    ]))

bytes_left : (quantum : ℕ) (bytes : List ℕ) → IsLeastForm quantum bytes
    → Left quantum (least_run quantum true (start bytes)) (runs_of quantum bytes).runs
unfolding is_least_form runs_of
bytes_left quantum bytes least =
    let parts = both (runs_within (length bytes) quantum true (start bytes)).whole (is_least_within (length bytes) quantum true bytes) least in
    all_left (length bytes) quantum true (start bytes) parts.0 parts.1

pub told : (table : List ℕ) (offset quantum : ℕ) (ends : List ℕ) (values : List ℤ)
    → 0 < offset → Ascends 0 ends
    → spread quantum (least_run quantum true (start (drop offset table))) ends ≡ Some values → TellsOver table offset quantum ends values
unfolding is_least_form runs_of
told table offset quantum ends values some rising is =
    let found = spread_covers quantum (least_run quantum true (start (drop offset table))) 0 ends values rising is in
    let all = left_all (length (drop offset table)) quantum true (start (drop offset table)) found.0 (omega arith) found.1 in
    record {
      named = some;
      least = rw (all.0) (all.1);
      covers = rw (all.0) (found.2);
    }

pub tells : (table : List ℕ) (offset quantum : ℕ) (ends : List ℕ) (values : List ℤ)
    → Ascends 0 ends → TellsOver table offset quantum ends values
    → spread quantum (least_run quantum true (start (drop offset table))) ends ≡ Some values
tells table offset quantum ends values rising are =
    let left = bytes_left quantum (drop offset table) are.least in
    covers_spread quantum (least_run quantum true (start (drop offset table))) (runs_at table offset quantum).runs 0 ends values
    left (left_ahead quantum true (start (drop offset table)) (runs_at table offset quantum).runs left) rising are.covers

pub one_list : HasOneList
one_list table offset quantum ends values others rising are also =
    same_some values others
    (sym (tells table offset quantum ends values rising are) ∙ tells table offset quantum ends others rising also)

covers_place : (start : ℕ) (ends : List ℕ) (values : List ℤ) (runs : List Run) (stretch from end place : ℕ) (value : ℤ)
    → Covers start ends values runs
    → slice_get (start ∷ ends) stretch ≡ Some from → slice_get ends stretch ≡ Some end → slice_get values stretch ≡ Some value
    → from ≤ place → place < end → value_of place runs true ≡ Value value
covers_place start [] values runs stretch from end place value covers begins ends_there has behind inside = cc
covers_place start (next ∷ ends) [] runs stretch from end place value covers begins ends_there has behind inside = absurd covers
covers_place start (next ∷ ends) (first ∷ values) runs zero from end place value covers begins ends_there has behind inside =
    let start_is : start ≡ from = cc in
    let end_is : next ≡ end = cc in
    let value_is : first ≡ value = cc in
    covers.0 place (omega (arith, start_is, behind)) (omega (arith, end_is, inside)) ∙ ap Value value_is
covers_place start (next ∷ ends) (first ∷ values) runs (suc stretch) from end place value covers begins ends_there has behind inside =
    covers_place next ends values runs stretch from end place value covers.1 begins ends_there has behind inside

pub answers_places : AnswersPlaces
unfolding is_least_form
answers_places table offset quantum ends values are stretch from end place value begins ends_there has behind inside =
    let parts = both (runs_at table offset quantum).whole (is_least_within (length (drop offset table)) quantum true (drop offset table)) are.least in
    looked_up table offset quantum place are.named
    ∙ ap (value_of place (runs_at table offset quantum).runs) parts.0
    ∙ covers_place 0 ends values (runs_at table offset quantum).runs stretch from end place value are.covers begins ends_there has behind inside

-- Equal neighbours are one run.
use Rattle.std.proofs.Common.{◌≡◌, ◌≢◌, inl, inr, ℕ, zero, suc, ℤ, pos, negsuc, ◌-ℤ◌, ◌<ℤ◌, ◌+◌, ◌-◌, ◌%◌, ◌^◌, ◌<◌, ◌≤◌, ◌==◌, IsTrue, true, false, List, [], ◌∷◌, ◌++◌, length, take, drop, get_or, All, refl, sym, ap, ◌∙◌, arith, append_assoc, add-one, length-append}
use Rattle.std.proofs.lemmas.Bool.{le-ltb, lt-ltb, cases_Bool}
use Rattle.std.proofs.lemmas.Bool.Decides.{nat_tests}
use Rattle.std.proofs.lemmas.Int.{ints}
use Rattle.std.proofs.Math.Seq.{drop-cons}
use Rattle.std.proofs.lemmas.List.{drop_all, take_all}
use Rattle.pcvalue.specs.declared.run.Run.{Run}
use Rattle.pcvalue.specs.declared.answer.Answer.TheVariants.{Value}
use Rattle.pcvalue.specs.Runs.{fits_i32}
use Rattle.pcvalue.specs.Cover.{Covers, Ascends}
use Rattle.pcvalue.specs.Writing.{AreRuns, CanStand, CanFollow, no_run}
use Rattle.link_tables.specs.declared.stretch.Stretch.{Stretch}
use Rattle.link_tables.specs.Stretches.{IsStretch, Follow, AreStretches, IsQuantum, IsWhole, ends_of, values_of, run_of, ended, merged_from, merged}

-- the runs of the stretches below an index are there
pub record Merged (first : Stretch) (others : List Stretch) (index : ℕ) (last : Stretch) (runs : List Run) : Type 0 where
  pub told : runs ++ merged_from last (drop index others) ≡ merged_from first others
  pub small : last.value < 2 ^ 31

pub merged_next : (first : Stretch) (others : List Stretch) (index : ℕ) (last d : Stretch) (runs more : List Run)
    → index < length others → Merged first others index last runs → (get_or others index d).value < 2 ^ 31
    → more ≡ runs ++ ended last (get_or others index d)
    → Merged first others (index + 1) (get_or others index d) more
unfolding merged_from
merged_next first others index last d runs more inside merged small is =
    let told : runs ++ (ended last (get_or others index d) ++ merged_from (get_or others index d) (drop (suc index) others)) ≡ merged_from first others
    = rw (drop-cons others index d) at merged.told in
    rw add-one (record {
      told = rw is
          (append_assoc runs (ended last (get_or others index d)) (merged_from (get_or others index d) (drop (suc index) others)) ∙ told);
      small = small;
    })

pub merged_all : (first : Stretch) (others : List Stretch) (index : ℕ) (last : Stretch) (runs : List Run)
    → length others ≤ index → Merged first others index last runs → runs ++ run_of last ∷ [] ≡ merged_from first others
unfolding merged_from
merged_all first others index last runs past merged = rw (drop_all index others past) at merged.told

small_at : (from : ℕ) (stretch : Stretch) (others : List Stretch) → Follow from (stretch ∷ others)
    → (k : ℕ) (d : Stretch) → k < length (stretch ∷ others) → (get_or (stretch ∷ others) k d).value < 2 ^ 31
small_at from stretch others follow zero d below = follow.0.value
small_at from stretch [] follow (suc k) d below = absurd (omega arith)
small_at from stretch (next ∷ others) follow (suc k) d below = small_at stretch.end next others follow.1 k d (omega arith)

small_follow : (from : ℕ) (others : List Stretch) → Follow from others → All (λ stretch. stretch.value < 2 ^ 31) others
small_follow from [] follow = λ k d below. absurd (omega arith)
small_follow from (stretch ∷ others) follow = λ k d below. small_at from stretch others follow k d below

tail_is : (stretch : Stretch) (others : List Stretch) → take (length (stretch ∷ others) - 1) (drop 1 (stretch ∷ others)) ≡ others
tail_is stretch others =
    let count : length (stretch ∷ others) - 1 ≡ length others = omega arith in
    rw count (take_all (length others) others (omega arith))

pub small_first : (stretches : List Stretch) (d : Stretch) → AreStretches stretches → (get_or stretches 0 d).value < 2 ^ 31
small_first [] d are = absurd are
small_first (stretch ∷ others) d are = are.0.value

pub small_others : (stretches : List Stretch) → AreStretches stretches
    → All (λ stretch. stretch.value < 2 ^ 31) (take (length stretches - 1) (drop 1 stretches))
small_others [] are = absurd are
small_others (stretch ∷ others) are = rw (tail_is stretch others) (small_follow stretch.end others are.2)

pub merged_behind : (stretches : List Stretch) (d : Stretch) → AreStretches stretches
    → merged_from (get_or stretches 0 d) (take (length stretches - 1) (drop 1 stretches)) ≡ merged stretches
merged_behind [] d are = absurd are
merged_behind (stretch ∷ others) d are = rw (tail_is stretch others) refl

-- a change between numbers fits
fits : (z : ℤ) → z <ℤ pos (2 ^ 31) → negsuc (2 ^ 31) <ℤ z → IsTrue (fits_i32 z)
fits (pos n) below above = let small : n < 2 ^ 31 = omega (arith, ints) in rw (lt-ltb n (2 ^ 31) small) refl
fits (negsuc n) below above = let small : n < 2 ^ 31 = omega (arith, ints) in rw (lt-ltb n (2 ^ 31) small) refl

first_fits : (n : ℕ) → n ≤ 2 ^ 31 - 2 → IsTrue (fits_i32 (pos n -ℤ negsuc 0))
first_fits n small = fits (pos n -ℤ negsuc 0) (omega (arith, ints)) (omega (arith, ints))

next_fits : (m n : ℕ) → m < 2 ^ 31 → n < 2 ^ 31 → IsTrue (fits_i32 (pos n -ℤ pos m))
next_fits m n low small = fits (pos n -ℤ pos m) (omega (arith, ints)) (omega (arith, ints))

whole_between : (quantum a b : ℕ) → IsQuantum quantum → a % quantum ≡ 0 → b % quantum ≡ 0 → (a - b) % quantum ≡ 0
whole_between quantum a b (inl is) one two = rw is (omega arith)
whole_between quantum a b (inr (inl is)) one two =
    let one' : a % 2 ≡ 0 = rw is at one in let two' : b % 2 ≡ 0 = rw is at two in rw is (omega arith)
whole_between quantum a b (inr (inr is)) one two =
    let one' : a % 4 ≡ 0 = rw is at one in let two' : b % 4 ≡ 0 = rw is at two in rw is (omega arith)

-- a run stands before a stretch that begins at a place
record Before (quantum : ℕ) (before : Run) (from : ℕ) (last : Stretch) : Type 0 where
  whole : before.end % quantum ≡ 0
  change : IsTrue (fits_i32 (pos last.value -ℤ before.value))
  other : pos last.value ≢ before.value
  up : before.end ≤ from

can_follow : (quantum : ℕ) (before : Run) (from : ℕ) (last : Stretch) → IsQuantum quantum → Before quantum before from last
    → IsStretch from last → IsWhole quantum last → CanFollow quantum before (run_of last)
can_follow quantum before from last counts stands is whole =
    record {
      longer = (let up : before.end ≤ from = stands.up in let longer : from < last.end = is.longer in omega arith);
      short = is.short;
      whole = whole_between quantum last.end before.end counts whole stands.whole;
      value = rw (lt-ltb last.value (2 ^ 31) is.value) refl;
      change = stands.change;
    }

other_value : (one two : Stretch) → (one.value == two.value) ≡ false → pos two.value ≢ pos one.value
other_value one two is = grind (arith, nat_tests)

same_value : (one two : Stretch) → (one.value == two.value) ≡ true → one.value ≡ two.value
same_value one two is = grind (arith, nat_tests)

all_others : (quantum : ℕ) (stretch : Stretch) (others : List Stretch) → All (IsWhole quantum) (stretch ∷ others) → All (IsWhole quantum) others
all_others quantum stretch others all = λ k d below. all (suc k) d (omega arith)

can_stand : (quantum : ℕ) (before : Run) (from : ℕ) (last : Stretch) (others : List Stretch) → IsQuantum quantum
    → Before quantum before from last → IsStretch from last → Follow last.end others → All (IsWhole quantum) (last ∷ others)
    → CanStand quantum before (merged_from last others)
unfolding merged_from
can_stand quantum before from last [] counts stands is follow all =
    (can_follow quantum before from last counts stands is (all 0 last (omega arith)), stands.other, tt)
can_stand quantum before from last (next ∷ others) counts stands is follow all =
    elim (cases_Bool (last.value == next.value)) [
      | inl same ↦
          let value : last.value ≡ next.value = same_value last next same in
          let rest : CanStand quantum before (merged_from next others)
          = can_stand quantum before last.end next others counts
          (record {
            whole = stands.whole;
            change = rw (← value) stands.change;
            other = rw (← value) stands.other;
            up = (let up : before.end ≤ from = stands.up in let longer : from < last.end = is.longer in omega arith);
          })
          follow.0 follow.1 (all_others quantum last (next ∷ others) all) in
          rw same rest
      | inr differ ↦
          let rest : CanStand quantum (run_of last) (merged_from next others)
          = can_stand quantum (run_of last) last.end next others counts
          (record {
            whole = all 0 last (omega arith);
            change = next_fits last.value next.value is.value follow.0.value;
            other = other_value last next differ;
            up = omega arith;
          })
          follow.0 follow.1 (all_others quantum last (next ∷ others) all) in
          rw differ (can_follow quantum before from last counts stands is (all 0 last (omega arith)), stands.other, rest)
    ]

stand_runs : (quantum : ℕ) (runs : List Run) → 0 < length runs → CanStand quantum no_run runs → AreRuns quantum runs
stand_runs quantum [] some stand = absurd (omega arith)
stand_runs quantum (run ∷ runs) some stand = (stand.0, stand.2)

some_merged : (last : Stretch) (others : List Stretch) → 0 < length (merged_from last others)
unfolding merged_from
some_merged last [] = omega arith
some_merged last (next ∷ others) =
    let rest : 0 < length (merged_from next others) = some_merged next others in
    omega (arith, length-append (ended last next) (merged_from next others))

zero_whole : (quantum : ℕ) → IsQuantum quantum → 0 % quantum ≡ 0
zero_whole quantum (inl is) = rw is refl
zero_whole quantum (inr (inl is)) = rw is refl
zero_whole quantum (inr (inr is)) = rw is refl

pub merged_runs : (quantum : ℕ) (stretches : List Stretch) → AreStretches stretches → IsQuantum quantum → All (IsWhole quantum) stretches
    → AreRuns quantum (merged stretches)
merged_runs quantum [] are counts all = absurd are
merged_runs quantum (stretch ∷ others) are counts all =
    stand_runs quantum (merged_from stretch others) (some_merged stretch others)
    (can_stand quantum no_run 0 stretch others counts
    (record { whole = zero_whole quantum counts; change = first_fits stretch.value are.1; other = λ is. (cc); up = omega arith }) are.0 are.2 all)

follow_ascends : (from : ℕ) (others : List Stretch) → Follow from others → Ascends from (ends_of others)
follow_ascends from [] follow = tt
follow_ascends from (stretch ∷ others) follow = (follow.0.longer, follow_ascends stretch.end others follow.1)

-- a run that ends before a stretch begins says nothing of it
covers_more : (from : ℕ) (ends : List ℕ) (values : List ℤ) (run : Run) (runs : List Run)
    → run.end ≤ from → Ascends from ends → Covers from ends values runs → Covers from ends values (run ∷ runs)
covers_more from [] [] run runs before rising covers =
    λ place behind. rw (le-ltb place run.end (omega arith)) (covers place behind)
covers_more from [] (value ∷ values) run runs before rising covers = absurd covers
covers_more from (end ∷ ends) [] run runs before rising covers = absurd covers
covers_more from (end ∷ ends) (value ∷ values) run runs before rising covers =
    let longer : from < end = rising.0 in (
      λ place behind inside. rw (le-ltb place run.end (omega arith)) (covers.0 place behind inside),
      covers_more end ends values run runs (omega arith) rising.1 covers.1,
    )

covers_from : (from : ℕ) (last : Stretch) (others : List Stretch) → IsStretch from last → Follow last.end others
    → Covers from (last.end ∷ ends_of others) (pos last.value ∷ values_of others) (merged_from last others)
unfolding merged_from
covers_from from last [] is follow = (
  λ place _ inside. rw (lt-ltb place last.end inside) refl,
  λ place behind. rw (le-ltb place last.end behind) refl,
)
covers_from from last (next ∷ others) is follow =
    let longer : from < last.end = is.longer in
    let more : last.end < next.end = follow.0.longer in
    elim (cases_Bool (last.value == next.value)) [
      | inl same ↦
          let value : next.value ≡ last.value = sym (same_value last next same) in
          let rest = covers_from from next others (record { longer = omega arith; short = follow.0.short; value = follow.0.value }) follow.1 in
          rw same (
            λ place behind inside. rest.0 place behind (omega arith) ∙ ap (λ v. Value (pos v)) value,
            (λ place behind inside. rest.0 place (omega arith) inside, rest.1),
          )
      | inr differ ↦
          let rest = covers_from last.end next others follow.0 follow.1 in
          rw differ (
            λ place behind inside. rw (lt-ltb place last.end inside) refl,
            covers_more last.end (next.end ∷ ends_of others) (pos next.value ∷ values_of others) (run_of last) (merged_from next others)
                (omega arith) (more, follow_ascends next.end others follow.1) rest,
          )
    ]

pub merged_covers : (stretches : List Stretch) → AreStretches stretches
    → Covers 0 (ends_of stretches) (values_of stretches) (merged stretches)
merged_covers [] are = absurd are
merged_covers (stretch ∷ others) are = covers_from 0 stretch others are.0 are.2

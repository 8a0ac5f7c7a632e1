use Rattle.std.proofs.Common.{◌≡◌, ◌≢◌, ℕ, zero, suc, ◌+◌, ◌*◌, ◌-◌, ◌^◌, ◌<◌, ◌==◌, ◌+ℤ◌, Bool, true, false, not, ◌&&◌, nat_lt, List, [], ◌∷◌, length, drop, Option, Some, None, IsTrue, refl, sym, ap, ◌∙◌, arith, if◌then◌else◌}
use Rattle.std.proofs.lemmas.Bool.{le-ltb, ltb-true}
use Rattle.pcvalue.specs.declared.run.Run.{Run}
use Rattle.pcvalue.specs.declared.answer.Answer.{Answer}
use Rattle.pcvalue.specs.declared.answer.Answer.TheVariants.{Absent, Past, Bad, Value}
use Rattle.pcvalue.specs.Varint.{varint}
use Rattle.pcvalue.specs.Runs.{Point, Reading, Another, Finished, Fault, Runs, zigzag, fits_i32, or_fault, run_over, run_by, next_run, runs_from, runs_within, runs_of, start}
use Rattle.pcvalue.specs.Table.{value_of, answer_of, runs_at, value_in, is_pc_table, IsPcTable}

-- past a run that ends before the place, the answer is that of the runs behind it
pub goes_on : (n i quantum place : ℕ) (first : Bool) (point next : Point) (answer : Answer)
    → i < n → next_run quantum first point ≡ Another next → nat_lt place next.run.end ≡ false
    → answer_of place (runs_within (n - i) quantum first point) ≡ answer
    → answer_of place (runs_within (n - (i + 1)) quantum false next) ≡ answer
unfolding runs_within
goes_on n i quantum place first point next answer inside another late known =
    let left : n - i ≡ suc (n - (i + 1)) = omega arith in
    let step : answer_of place (runs_within (n - i) quantum first point)
    ≡ answer_of place (runs_within (n - (i + 1)) quantum false next)
    = rw left (rw (another, late) refl) in
    sym step ∙ known

-- where the table's end was found, no place has bad bytes before it
pub never_bad : (place : ℕ) (runs : List Run) → value_of place runs true ≢ Bad
never_bad place [] = λ bad. cc
never_bad place (run ∷ runs) =
    elim (nat_lt place run.end) as (λ here. (if here then Value run.value else value_of place runs true) ≢ Bad) [
      | true ↦ λ bad. cc
      | false ↦ never_bad place runs
    ]

-- where a table is whole, no look-up finds bad bytes
whole_answers : (place : ℕ) (found : Runs) → found.whole ≡ true → answer_of place found ≢ Bad
whole_answers place found whole = rw whole (never_bad place found.runs)

pub known_in : (table : List ℕ) (offset quantum place : ℕ)
    → IsPcTable table offset quantum → value_in table offset quantum place ≢ Bad
unfolding is_pc_table value_in
known_in table offset quantum place =
    elim (offset == 0) as (λ none. IsTrue (if none then true else (runs_at table offset quantum).whole)
    → (if none then Absent else answer_of place (runs_at table offset quantum)) ≢ Bad) [
      | true ↦ λ _ bad. cc
      | false ↦ λ whole. whole_answers place (runs_at table offset quantum) whole
    ]

pub or_fault_another : (read : Option (ℕ × List ℕ)) (next : ℕ × List ℕ → Reading) (point : Point)
    → or_fault read next ≡ Another point
    → (found : ℕ × List ℕ) × (next found ≡ Another point)
or_fault_another (Some found) next point is = (found, is)
or_fault_another None next point is = cc

pub guarded : (test : Bool) (found point : Point)
    → (if test then Another found else Fault) ≡ Another point → (test ≡ true) × (found ≡ point)
guarded true found point is = (refl, cc)
guarded false found point is = cc

pub unfinished : (test : Bool) (reading : Reading) (point : Point)
    → (if test then Finished else reading) ≡ Another point → reading ≡ Another point
unfinished true reading point is = cc
unfinished false reading point is = is

second : (a b : Bool) → (a && b) ≡ true → b ≡ true
second true b is = is
second false b is = cc

-- every run ends below 2 ^ 32
EndsBelow : Point → Type 0
EndsBelow point = point.run.end < 2 ^ 32

over_ends : (quantum : ℕ) (from : Point) (code : ℕ) (quanta : ℕ × List ℕ) (point : Point)
    → run_over quantum from code quanta ≡ Another point → EndsBelow point
unfolding run_over EndsBelow
over_ends quantum from code quanta point is =
    let kept = guarded (fits_i32 (from.run.value +ℤ zigzag code) && nat_lt (from.run.end + quanta.0 * quantum) (2 ^ 32)) _ point is in
    let fits : nat_lt (from.run.end + quanta.0 * quantum) (2 ^ 32) ≡ true
    = second (fits_i32 (from.run.value +ℤ zigzag code)) (nat_lt (from.run.end + quanta.0 * quantum) (2 ^ 32)) kept.0 in
    let ended : from.run.end + quanta.0 * quantum ≡ point.run.end = ap (λ p. p.run.end) kept.1 in
    let below : from.run.end + quanta.0 * quantum < 2 ^ 32 = ltb-true (from.run.end + quanta.0 * quantum) (2 ^ 32) fits in
    omega arith

by_ends : (quantum : ℕ) (first : Bool) (from : Point) (code : ℕ × List ℕ) (point : Point)
    → run_by quantum first from code ≡ Another point → EndsBelow point
unfolding run_by
by_ends quantum first from code point is =
    let goes : or_fault (varint code.1) (run_over quantum from code.0) ≡ Another point
    = unfinished (code.0 == 0 && not first) _ point is in
    let found = or_fault_another (varint code.1) (run_over quantum from code.0) point goes in
    over_ends quantum from code.0 found.0 point found.1

next_ends : (quantum : ℕ) (first : Bool) (from point : Point)
    → next_run quantum first from ≡ Another point → EndsBelow point
unfolding next_run
next_ends quantum first from point is =
    let found = or_fault_another (varint from.rest) (run_by quantum first from) point is in
    by_ends quantum first from found.0 point found.1

-- so no run ends behind the greatest place, and what is left is whether the table is whole
abbrev greatest : ℕ
greatest = 2 ^ 32 - 1

Tells : Runs → Type 0
Tells found = answer_of greatest found ≡ (if found.whole then Past else Bad)

from_tells : (reading : Reading) (others : Point → Runs)
    → ((point : Point) → reading ≡ Another point → EndsBelow point) → ((point : Point) → Tells (others point))
    → Tells (runs_from reading others)
unfolding Tells EndsBelow
from_tells (Another point) others ends rest =
    let below : point.run.end < 2 ^ 32 = ends point refl in
    let late : nat_lt greatest point.run.end ≡ false = le-ltb _ _ (omega arith) in
    rw late (rest point)
from_tells Finished others ends rest = refl
from_tells Fault others ends rest = refl

within_tells : (most quantum : ℕ) (first : Bool) (point : Point) → Tells (runs_within most quantum first point)
unfolding runs_within
within_tells zero quantum first point = unfold Tells in refl
within_tells (suc most) quantum first point =
    from_tells (next_run quantum first point) (runs_within most quantum false)
    (next_ends quantum first point) (within_tells most quantum false)

of_tells : (quantum : ℕ) (bytes : List ℕ) → Tells (runs_of quantum bytes)
unfolding runs_of
of_tells quantum bytes = within_tells (length bytes) quantum true (start bytes)

whole_unless_bad : (found : Runs) → Tells found → answer_of greatest found ≢ Bad → found.whole ≡ true
unfolding Tells
whole_unless_bad found tells fine =
    elim found.whole as (λ whole. answer_of greatest found ≡ (if whole then Past else Bad) → whole ≡ true) [
      | true ↦ λ _. refl
      | false ↦ λ bad. absurd (fine bad)
    ] tells

-- a look-up at the greatest place tells whether the table is whole
pub known_at_greatest : (table : List ℕ) (offset quantum : ℕ)
    → value_in table offset quantum (2 ^ 32 - 1) ≢ Bad → IsPcTable table offset quantum
unfolding is_pc_table value_in
known_at_greatest table offset quantum =
    elim (offset == 0) as (λ none. (if none then Absent else answer_of greatest (runs_at table offset quantum)) ≢ Bad
    → IsTrue (if none then true else (runs_at table offset quantum).whole)) [
      | true ↦ λ _. refl
      | false ↦ whole_unless_bad (runs_at table offset quantum) (of_tells quantum (drop offset table))
    ]

use Rattle.std.proofs.Common.{◌≡◌, ℕ, zero, suc, ℤ, ◌+◌, ◌*◌, ◌^◌, ◌<◌, ◌≤◌, ◌==◌, ◌+ℤ◌, Bool, true, false, not, ◌&&◌, nat_lt, List, [], ◌∷◌, ◌++◌, length, drop, inl, inr, refl, sym, ap, ◌∙◌, arith}
use Rattle.std.proofs.lemmas.Bool.{le-ltb, lt-ltb, cases_lt}
use Rattle.std.proofs.lemmas.Bool.Decides.{nat_tests}
use Rattle.pcvalue.specs.declared.run.Run.{Run}
use Rattle.pcvalue.specs.declared.answer.Answer.TheVariants.{Value}
use Rattle.pcvalue.specs.Varint.{varint}
use Rattle.pcvalue.specs.Runs.{Point, Reading, Another, Finished, Fault, Runs, zigzag, fits_i32, or_fault, run_over, run_by, next_run, runs_from, runs_within, runs_of, start}
use Rattle.pcvalue.specs.Table.{value_of, answer_of, runs_at, value_in, is_pc_table, IsPcTable, HasValue}
use Rattle.pcvalue.specs.Writing.{table_bytes, AreRuns}
use Rattle.pcvalue.proofs.TableLemmas.{or_fault_another, guarded, unfinished}
use Rattle.pcvalue.proofs.WritingLemmas.{table_stands}

-- no run ends before the one that stands before it
Rises : ℕ → List Run → Type 0
Rises from [] = Unit {0}
Rises from (run ∷ runs) = (from ≤ run.end) × Rises run.end runs

Follows : Point → Point → Type 0
Follows from point = from.run.end ≤ point.run.end

over_follows : (quantum : ℕ) (from : Point) (code : ℕ) (quanta : ℕ × List ℕ) (point : Point)
    → run_over quantum from code quanta ≡ Another point → Follows from point
unfolding run_over Follows
over_follows quantum from code quanta point is =
    let kept = guarded (fits_i32 (from.run.value +ℤ zigzag code) && nat_lt (from.run.end + quanta.0 * quantum) (2 ^ 32)) _ point is in
    let ended : from.run.end + quanta.0 * quantum ≡ point.run.end = ap (λ p. p.run.end) kept.1 in
    omega arith

by_follows : (quantum : ℕ) (first : Bool) (from : Point) (code : ℕ × List ℕ) (point : Point)
    → run_by quantum first from code ≡ Another point → Follows from point
unfolding run_by
by_follows quantum first from code point is =
    let goes : or_fault (varint code.1) (run_over quantum from code.0) ≡ Another point
    = unfinished (code.0 == 0 && not first) _ point is in
    let found = or_fault_another (varint code.1) (run_over quantum from code.0) point goes in
    over_follows quantum from code.0 found.0 point found.1

next_follows : (quantum : ℕ) (first : Bool) (from point : Point)
    → next_run quantum first from ≡ Another point → Follows from point
unfolding next_run
next_follows quantum first from point is =
    let found = or_fault_another (varint from.rest) (run_by quantum first from) point is in
    by_follows quantum first from found.0 point found.1

from_rises : (from : Point) (reading : Reading) (others : Point → Runs)
    → ((point : Point) → reading ≡ Another point → Follows from point)
    → ((point : Point) → Rises point.run.end (others point).runs)
    → Rises from.run.end (runs_from reading others).runs
unfolding Rises Follows
from_rises from (Another point) others follows rest = (follows point refl, rest point)
from_rises from Finished others follows rest = tt
from_rises from Fault others follows rest = tt

within_rises : (most quantum : ℕ) (first : Bool) (point : Point)
    → Rises point.run.end (runs_within most quantum first point).runs
unfolding runs_within
within_rises zero quantum first point = unfold Rises in tt
within_rises (suc most) quantum first point =
    from_rises point (next_run quantum first point) (runs_within most quantum false)
    (next_follows quantum first point) (within_rises most quantum false)

of_rises : (quantum : ℕ) (bytes : List ℕ) → Rises 0 (runs_of quantum bytes).runs
unfolding runs_of
of_rises quantum bytes = within_rises (length bytes) quantum true (start bytes)

-- the first run that ends behind a place has it
found_has : (from place : ℕ) (runs : List Run) (whole : Bool) (value : ℤ)
    → from ≤ place → value_of place runs whole ≡ Value value → HasValue from runs place value
found_has from place [] true value behind is = cc
found_has from place [] false value behind is = cc
found_has from place (run ∷ runs) whole value behind is =
    elim (cases_lt place run.end) [
      | inl inside ↦
          let here : Value run.value ≡ Value value = rw (lt-ltb _ _ inside) at is in
          inl (behind, inside, cc)
      | inr late ↦ inr (found_has run.end place runs whole value late (rw (le-ltb _ _ late) at is))
    ]

has_behind : (from place : ℕ) (runs : List Run) (value : ℤ)
    → Rises from runs → HasValue from runs place value → from ≤ place
unfolding Rises
has_behind from place [] value rises has = absurd has
has_behind from place (run ∷ runs) value rises (inl here) = here.0
has_behind from place (run ∷ runs) value rises (inr later) =
    let behind : run.end ≤ place = has_behind run.end place runs value rises.1 later in
    let first : from ≤ run.end = rises.0 in
    omega arith

-- and no other run has it
has_found : (from place : ℕ) (runs : List Run) (whole : Bool) (value : ℤ)
    → Rises from runs → HasValue from runs place value → value_of place runs whole ≡ Value value
unfolding Rises
has_found from place [] whole value rises has = absurd has
has_found from place (run ∷ runs) whole value rises (inl here) = rw (lt-ltb _ _ here.1) (ap Value here.2)
has_found from place (run ∷ runs) whole value rises (inr later) =
    let late : run.end ≤ place = has_behind run.end place runs value rises.1 later in
    rw (le-ltb _ _ late) (has_found run.end place runs whole value rises.1 later)

present : (offset : ℕ) → 0 < offset → (offset == 0) ≡ false
present offset some = grind (arith, nat_tests)

pub looked_up : (table : List ℕ) (offset quantum place : ℕ)
    → 0 < offset → value_in table offset quantum place ≡ answer_of place (runs_at table offset quantum)
unfolding value_in
looked_up table offset quantum place some = rw (present offset some) refl

pub value_has : (table : List ℕ) (offset quantum place : ℕ) (value : ℤ)
    → 0 < offset → value_in table offset quantum place ≡ Value value
    → HasValue 0 (runs_at table offset quantum).runs place value
value_has table offset quantum place value some is =
    found_has 0 place (runs_at table offset quantum).runs (runs_at table offset quantum).whole value (omega arith)
    (sym (looked_up table offset quantum place some) ∙ is)

pub has_value : (table : List ℕ) (offset quantum place : ℕ) (value : ℤ)
    → 0 < offset → HasValue 0 (runs_at table offset quantum).runs place value
    → value_in table offset quantum place ≡ Value value
has_value table offset quantum place value some has =
    looked_up table offset quantum place some
    ∙ has_found 0 place (runs_at table offset quantum).runs (runs_at table offset quantum).whole value
    (of_rises quantum (drop offset table)) has

-- in a table that was written, a look-up finds the values of its runs
pub values_stand : (quantum : ℕ) (runs : List Run) (table more : List ℕ) (offset place : ℕ) → AreRuns quantum runs
    → drop offset table ≡ table_bytes quantum runs ++ more → 0 < offset
    → value_in table offset quantum place ≡ value_of place runs true
values_stand quantum runs table more offset place are stands some =
    looked_up table offset quantum place some
    ∙ ap (answer_of place) (table_stands quantum runs table more offset are stands)

-- and it is a table
pub table_is : (quantum : ℕ) (runs : List Run) (table more : List ℕ) (offset : ℕ) → AreRuns quantum runs
    → drop offset table ≡ table_bytes quantum runs ++ more → 0 < offset → IsPcTable table offset quantum
unfolding is_pc_table
table_is quantum runs table more offset are stands some =
    rw (present offset some) (ap (λ found. found.whole) (table_stands quantum runs table more offset are stands))

-- A table is in its least form exactly where its runs are found one by one, each in its least form, up to an end.
use Rattle.std.proofs.Common.{◌≡◌, ◌≢◌, ℕ, zero, suc, ℤ, pos, negsuc, ◌+◌, ◌*◌, ◌/◌, ◌%◌, ◌^◌, ◌<◌, ◌≤◌, ◌==◌, ◌+ℤ◌, Bool, true, false, not, ◌&&◌, nat_lt, List, [], ◌∷◌, length, Option, Some, None, refl, sym, ap, ◌∙◌, arith, if◌then◌else◌}
use Rattle.std.proofs.lemmas.Bool.{ltb-true}
use Rattle.std.proofs.lemmas.Bool.Decides.{nat_tests}
use Rattle.std.proofs.lemmas.Int.{ints}
use Rattle.pcvalue.specs.declared.run.Run.{Run}
use Rattle.pcvalue.specs.Varint.{varint}
use Rattle.pcvalue.specs.Runs.{Point, Reading, Another, Finished, Fault, zigzag, fits_i32, or_fault, run_over, run_by, next_run, runs_from, runs_within}
use Rattle.pcvalue.specs.Least.{varint_len, is_shortest, and_read, are_least_quanta, is_least_change, is_least_within}
use Rattle.pcvalue.specs.Spread.{is_least_at, least_run}
use Rattle.pcvalue.proofs.TableLemmas.{guarded}

-- runs that stand there one behind the other, each in its least form, up to the table's end
abbrev pub Left : ℕ → Reading → List Run → Type 0
Left quantum reading [] = reading ≡ Finished
Left quantum reading (run ∷ runs) =
    (point : Point) × (reading ≡ Another point) × (point.run ≡ run) × Left quantum (least_run quantum false point) runs

pub both : (a b : Bool) → (a && b) ≡ true → (a ≡ true) × (b ≡ true)
both true b is = (refl, is)
both false b is = cc

or_fault_some : (read : Option (ℕ × List ℕ)) (next : ℕ × List ℕ → Reading) (reading : Reading)
    → or_fault read next ≡ reading → (reading ≡ Fault → ⊥)
    → (found : ℕ × List ℕ) × (read ≡ Some found) × (next found ≡ reading)
or_fault_some (Some found) next reading is fine = (found, refl, is)
or_fault_some None next reading is fine = absurd (fine (sym is))

and_read_some : (read : Option (ℕ × List ℕ)) (test : ℕ × List ℕ → Bool) → and_read read test ≡ true
    → (found : ℕ × List ℕ) × (read ≡ Some found) × (test found ≡ true)
and_read_some (Some found) test is = (found, refl, is)
and_read_some None test is = cc

goes_by : (test : Bool) (reading : Reading) (point : Point)
    → (if test then Finished else reading) ≡ Another point → (test ≡ false) × (reading ≡ Another point)
goes_by true reading point is = cc
goes_by false reading point is = (refl, is)

-- what was read of a run, and the point behind it
record Took (quantum : ℕ) (first : Bool) (point next : Point) : Type 0 where
  code : ℕ × List ℕ
  quanta : ℕ × List ℕ
  code_read : varint point.rest ≡ Some code
  goes : (code.0 == 0 && not first) ≡ false
  quanta_read : varint code.1 ≡ Some quanta
  end : point.run.end + quanta.0 * quantum ≡ next.run.end
  value : point.run.value +ℤ zigzag code.0 ≡ next.run.value
  rest : quanta.1 ≡ next.rest

over_took : (quantum : ℕ) (point next : Point) (code : ℕ) (quanta : ℕ × List ℕ)
    → run_over quantum point code quanta ≡ Another next
    → (point.run.end + quanta.0 * quantum ≡ next.run.end) × (point.run.value +ℤ zigzag code ≡ next.run.value) × (quanta.1 ≡ next.rest)
unfolding run_over
over_took quantum point next code quanta is =
    let kept = guarded (fits_i32 (point.run.value +ℤ zigzag code) && nat_lt (point.run.end + quanta.0 * quantum) (2 ^ 32))
    (record { run = record { end = point.run.end + quanta.0 * quantum; value = point.run.value +ℤ zigzag code }; rest = quanta.1 }) next is in
    (ap (λ p. p.run.end) kept.1, ap (λ p. p.run.value) kept.1, ap (λ p. p.rest) kept.1)

by_took : (quantum : ℕ) (first : Bool) (point next : Point) (code : ℕ × List ℕ)
    → varint point.rest ≡ Some code → run_by quantum first point code ≡ Another next → Took quantum first point next
unfolding run_by
by_took quantum first point next code read is =
    let goes = goes_by (code.0 == 0 && not first) (or_fault (varint code.1) (run_over quantum point code.0)) next is in
    let over = or_fault_some (varint code.1) (run_over quantum point code.0) (Another next) goes.1 (λ bad. cc) in
    let parts = over_took quantum point next code.0 over.0 over.2 in
    record {
      code = code;
      quanta = over.0;
      code_read = read;
      goes = goes.0;
      quanta_read = over.1;
      end = parts.0;
      value = parts.1;
      rest = parts.2;
    }

took : (quantum : ℕ) (first : Bool) (point next : Point) → next_run quantum first point ≡ Another next
    → Took quantum first point next
unfolding next_run
took quantum first point next is =
    let read = or_fault_some (varint point.rest) (run_by quantum first point) (Another next) is (λ bad. cc) in
    by_took quantum first point next read.0 read.1 read.2

unended : (test : Bool) (point : Point) → (if test then Another point else Fault) ≡ Finished → ⊥
unended true point is = cc
unended false point is = cc

over_unended : (quantum : ℕ) (point : Point) (code : ℕ) (quanta : ℕ × List ℕ) → run_over quantum point code quanta ≡ Finished → ⊥
unfolding run_over
over_unended quantum point code quanta is =
    unended (fits_i32 (point.run.value +ℤ zigzag code) && nat_lt (point.run.end + quanta.0 * quantum) (2 ^ 32))
    (record { run = record { end = point.run.end + quanta.0 * quantum; value = point.run.value +ℤ zigzag code }; rest = quanta.1 }) is

ends_by : (test : Bool) (reading : Reading)
    → (if test then Finished else reading) ≡ Finished → (reading ≡ Finished → ⊥) → test ≡ true
ends_by true reading is goes = refl
ends_by false reading is goes = absurd (goes is)

by_ended : (quantum : ℕ) (first : Bool) (point : Point) (code : ℕ × List ℕ)
    → run_by quantum first point code ≡ Finished → (code.0 == 0 && not first) ≡ true
unfolding run_by
by_ended quantum first point code is =
    ends_by (code.0 == 0 && not first) (or_fault (varint code.1) (run_over quantum point code.0)) is
    (λ more.
    let over = or_fault_some (varint code.1) (run_over quantum point code.0) Finished more (λ bad. cc) in
    over_unended quantum point code.0 over.0 over.2)

-- what was read of a table's end
ended : (quantum : ℕ) (first : Bool) (point : Point) → next_run quantum first point ≡ Finished
    → (code : ℕ × List ℕ) × (varint point.rest ≡ Some code) × ((code.0 == 0 && not first) ≡ true)
unfolding next_run
ended quantum first point is =
    let read = or_fault_some (varint point.rest) (run_by quantum first point) Finished is (λ bad. cc) in
    (read.0, read.1, by_ended quantum first point read.0 read.2)

unless_fault : (test : Bool) (reading found : Reading)
    → (if test then reading else Fault) ≡ found → (found ≡ Fault → ⊥) → (test ≡ true) × (reading ≡ found)
unless_fault true reading found is fine = (refl, is)
unless_fault false reading found is fine = absurd (fine (sym is))

pub same : (a b : ℕ) → (a == b) ≡ true → a ≡ b
same a b is = grind (arith, nat_tests)

some_len : (number : ℕ) → 0 < varint_len number
some_len number =
    elim (nat_lt number (2 ^ 7)) as (λ one. 0 < (if one then 1 else (if nat_lt number (2 ^ 14) then 2 else (if nat_lt number (2 ^ 21) then 3 else (if nat_lt number (2 ^ 28) then 4 else 5))))) [
      | true ↦ omega arith
      | false ↦ elim (nat_lt number (2 ^ 14)) as (λ two. 0 < (if two then 2 else (if nat_lt number (2 ^ 21) then 3 else (if nat_lt number (2 ^ 28) then 4 else 5)))) [
        | true ↦ omega arith
        | false ↦ elim (nat_lt number (2 ^ 21)) as (λ three. 0 < (if three then 3 else (if nat_lt number (2 ^ 28) then 4 else 5))) [
          | true ↦ omega arith
          | false ↦ elim (nat_lt number (2 ^ 28)) as (λ four. 0 < (if four then 4 else 5)) [
            | true ↦ omega arith
            | false ↦ omega arith
          ]
        ]
      ]
    ]

shorter : (bytes : List ℕ) (read : ℕ × List ℕ) → is_shortest bytes read ≡ true → length read.1 < length bytes
shorter bytes read is =
    let long : length bytes ≡ varint_len read.0 + length read.1 = same _ _ is in
    let some : 0 < varint_len read.0 = some_len read.0 in
    omega (arith, long, some)

-- the first run of what stands there, in its least form
pub record Begins (quantum : ℕ) (first : Bool) (point next : Point) : Type 0 where
  pub is : next_run quantum first point ≡ Another next
  pub later : (most : ℕ) → is_least_within (suc most) quantum first point.rest ≡ is_least_within most quantum false next.rest
  pub shorter : length next.rest < length point.rest
  pub longer : point.run.end < next.run.end
  pub differs : first ≡ false → next.run.value ≢ point.run.value

half_none : (value : ℤ) (half : ℕ) → value +ℤ pos half ≡ value → half ≡ 0
half_none value half is = omega (arith, ints)

never_falls : (value : ℤ) (half : ℕ) → value +ℤ negsuc half ≡ value → ⊥
never_falls value half is = omega (arith, ints)

unchanged_by : (value : ℤ) (code : ℕ) (even : Bool) → (code % 2 == 0) ≡ even
    → value +ℤ (if even then pos (code / 2) else negsuc (code / 2)) ≡ value → code ≡ 0
unchanged_by value code true test is =
    let even : code % 2 ≡ 0 = same _ _ test in
    let none : code / 2 ≡ 0 = half_none value (code / 2) is in
    omega (arith, even, none)
unchanged_by value code false test is = absurd (never_falls value (code / 2) is)

-- only the code 0 keeps a value
unchanged : (value : ℤ) (code : ℕ) → value +ℤ zigzag code ≡ value → code ≡ 0
unchanged value code is = unchanged_by value code (code % 2 == 0) refl is

at_parts : (quantum : ℕ) (first : Bool) (bytes : List ℕ) (code quanta : ℕ × List ℕ)
    → varint bytes ≡ Some code → (code.0 == 0 && not first) ≡ false → varint code.1 ≡ Some quanta
    → is_least_at quantum first bytes ≡ true
    → (is_shortest bytes code ≡ true) × (is_shortest code.1 quanta ≡ true) × (nat_lt 0 (quanta.0 * quantum) ≡ true)
unfolding is_least_at
at_parts quantum first bytes code quanta code_read goes quanta_read is =
    let change : (is_shortest bytes code && (if code.0 == 0 && not first then true else and_read (varint code.1) (are_least_quanta quantum (λ _. true) code.1))) ≡ true
    = rw code_read at is in
    let one = both _ _ change in
    let others : and_read (varint code.1) (are_least_quanta quantum (λ _. true) code.1) ≡ true = rw goes at one.1 in
    let tests : ((is_shortest code.1 quanta && nat_lt 0 (quanta.0 * quantum)) && true) ≡ true = rw quanta_read at others in
    let two = both (is_shortest code.1 quanta && nat_lt 0 (quanta.0 * quantum)) true tests in
    let three = both (is_shortest code.1 quanta) (nat_lt 0 (quanta.0 * quantum)) two.0 in
    (one.0, three.0, three.1)

later_is : (most quantum : ℕ) (first : Bool) (bytes : List ℕ) (code quanta : ℕ × List ℕ)
    → varint bytes ≡ Some code → (code.0 == 0 && not first) ≡ false → varint code.1 ≡ Some quanta
    → is_shortest bytes code ≡ true → is_shortest code.1 quanta ≡ true → nat_lt 0 (quanta.0 * quantum) ≡ true
    → is_least_within (suc most) quantum first bytes ≡ is_least_within most quantum false quanta.1
unfolding is_least_within
later_is most quantum first bytes code quanta code_read goes quanta_read short short_quanta some =
    rw code_read (rw (short, goes) (rw quanta_read (rw (short_quanta, some) refl)))

some_zero : (code : ℕ) (first : Bool) → first ≡ false → (code == 0 && not first) ≡ false → code ≡ 0 → ⊥
some_zero code true is goes none = cc
some_zero code false is goes none =
    let zero_is : (0 == 0 && true) ≡ false = rw none at goes in
    cc

longer_by : (end more next : ℕ) → 0 < more → end + more ≡ next → end < next
longer_by end more next some is = omega arith

less_less_by : (a b c d : ℕ) → a < b → b < c → a ≡ d → d < c
less_less_by a b c d one two is = omega arith

begun : (quantum : ℕ) (first : Bool) (point next : Point) → next_run quantum first point ≡ Another next
    → is_least_at quantum first point.rest ≡ true → Took quantum first point next → Begins quantum first point next
begun quantum first point next is least t =
    let tests = at_parts quantum first point.rest t.code t.quanta t.code_read t.goes t.quanta_read least in
    let one : length t.code.1 < length point.rest = shorter point.rest t.code tests.0 in
    let two : length t.quanta.1 < length t.code.1 = shorter t.code.1 t.quanta tests.1 in
    let some : 0 < t.quanta.0 * quantum = ltb-true 0 (t.quanta.0 * quantum) tests.2 in
    let end : point.run.end + t.quanta.0 * quantum ≡ next.run.end = t.end in
    record {
      is = is;
      later = λ most.
          later_is most quantum first point.rest t.code t.quanta t.code_read t.goes t.quanta_read tests.0 tests.1 tests.2
          ∙ ap (is_least_within most quantum false) t.rest;
      shorter = less_less_by (length t.quanta.1) (length t.code.1) (length point.rest) (length next.rest) two one (ap length t.rest);
      longer = longer_by point.run.end (t.quanta.0 * quantum) next.run.end some end;
      differs = λ later kept. some_zero t.code.0 first later t.goes (unchanged point.run.value t.code.0 (t.value ∙ kept));
    }

end_facts : (quantum : ℕ) (first : Bool) (bytes : List ℕ) (code : ℕ × List ℕ)
    → varint bytes ≡ Some code → (code.0 == 0 && not first) ≡ true → is_least_at quantum first bytes ≡ true
    → ((most : ℕ) → is_least_within (suc most) quantum first bytes ≡ true) × (0 < length bytes)
unfolding is_least_at is_least_within
end_facts quantum first bytes code read stops least =
    let change : (is_shortest bytes code && (if code.0 == 0 && not first then true else and_read (varint code.1) (are_least_quanta quantum (λ _. true) code.1))) ≡ true
    = rw read at least in
    let short : is_shortest bytes code ≡ true = (both _ _ change).0 in
    let less : length code.1 < length bytes = shorter bytes code short in
    (λ most. rw read (rw (short, stops) refl), omega (arith, less))

loosened_by : (stops : Bool) (quantum : ℕ) (others : List ℕ → Bool) (bytes : List ℕ)
    → (if stops then true else and_read (varint bytes) (are_least_quanta quantum others bytes)) ≡ true
    → (if stops then true else and_read (varint bytes) (are_least_quanta quantum (λ _. true) bytes)) ≡ true
loosened_by true quantum others bytes is = refl
loosened_by false quantum others bytes is =
    let read = and_read_some (varint bytes) (are_least_quanta quantum others bytes) is in
    let two = both (is_shortest bytes read.0 && nat_lt 0 (read.0.0 * quantum)) (others read.0.1) read.2 in
    rw (read.1) (rw (two.0) refl)

pub begins : (quantum : ℕ) (first : Bool) (point next : Point)
    → least_run quantum first point ≡ Another next → Begins quantum first point next
unfolding least_run
begins quantum first point next is =
    let least = unless_fault (is_least_at quantum first point.rest) (next_run quantum first point) (Another next) is (λ bad. cc) in
    let t : Took quantum first point next = took quantum first point next least.1 in
    begun quantum first point next least.1 least.0 t

-- the table's end, in its least form
pub ends_least : (quantum : ℕ) (first : Bool) (point : Point) → least_run quantum first point ≡ Finished
    → (next_run quantum first point ≡ Finished) × ((most : ℕ) → is_least_within (suc most) quantum first point.rest ≡ true) × (0 < length point.rest)
unfolding least_run
ends_least quantum first point is =
    let least = unless_fault (is_least_at quantum first point.rest) (next_run quantum first point) Finished is (λ bad. cc) in
    let end = ended quantum first point least.1 in
    let facts = end_facts quantum first point.rest end.0 end.1 end.2 least.0 in
    (least.1, facts.0, facts.1)

-- what stands there is in least form, and is it with all that stands behind it
loosened : (quantum : ℕ) (first : Bool) (others : List ℕ → Bool) (bytes : List ℕ)
    → and_read (varint bytes) (is_least_change quantum first others bytes) ≡ true → is_least_at quantum first bytes ≡ true
unfolding is_least_at
loosened quantum first others bytes is =
    let read = and_read_some (varint bytes) (is_least_change quantum first others bytes) is in
    let one = both (is_shortest bytes read.0) (if read.0.0 == 0 && not first then true else and_read (varint read.0.1) (are_least_quanta quantum others read.0.1)) read.2 in
    rw (read.1) (rw (one.0) (loosened_by (read.0.0 == 0 && not first) quantum others read.0.1 one.1))

least_is : (most quantum : ℕ) (first : Bool) (point : Point)
    → is_least_within (suc most) quantum first point.rest ≡ true → least_run quantum first point ≡ next_run quantum first point
unfolding is_least_within least_run
least_is most quantum first point least =
    rw (loosened quantum first (is_least_within most quantum false) point.rest least) refl

by_reading : (most quantum : ℕ) (first : Bool) (point : Point) (reading : Reading)
    → least_run quantum first point ≡ reading
    → is_least_within (suc most) quantum first point.rest ≡ true
    → (runs_from reading (runs_within most quantum false)).whole ≡ true
    → ((next : Point) → (runs_within most quantum false next).whole ≡ true → is_least_within most quantum false next.rest ≡ true
    → Left quantum (least_run quantum false next) (runs_within most quantum false next).runs)
    → Left quantum (least_run quantum first point) (runs_from reading (runs_within most quantum false)).runs
by_reading most quantum first point (Another next) is least whole rest =
    let b : Begins quantum first point next = begins quantum first point next is in
    (next, is, refl, rest next whole (sym (b.later most) ∙ least))
by_reading most quantum first point Finished is least whole rest = is
by_reading most quantum first point Fault is least whole rest = cc

-- a table in least form has its runs left
pub all_left : (most quantum : ℕ) (first : Bool) (point : Point)
    → (runs_within most quantum first point).whole ≡ true → is_least_within most quantum first point.rest ≡ true
    → Left quantum (least_run quantum first point) (runs_within most quantum first point).runs
unfolding runs_within
all_left zero quantum first point whole least = cc
all_left (suc most) quantum first point whole least =
    by_reading most quantum first point (next_run quantum first point) (least_is most quantum first point least) least whole
    (all_left most quantum false)

-- and only such a table
pub left_all : (most quantum : ℕ) (first : Bool) (point : Point) (runs : List Run)
    → length point.rest ≤ most → Left quantum (least_run quantum first point) runs
    → (runs_within most quantum first point ≡ (record { runs = runs; whole = true })) × (is_least_within most quantum first point.rest ≡ true)
unfolding runs_within
left_all zero quantum first point [] enough left =
    let some : 0 < length point.rest = (ends_least quantum first point left).2 in
    absurd (omega arith)
left_all zero quantum first point (run ∷ runs) enough left =
    let some : length left.0.rest < length point.rest = (begins quantum first point left.0 left.1).shorter in
    absurd (omega arith)
left_all (suc most) quantum first point [] enough left =
    let end = ends_least quantum first point left in
    (rw (end.0) refl, end.1 most)
left_all (suc most) quantum first point (run ∷ runs) enough left =
    let b : Begins quantum first point left.0 = begins quantum first point left.0 left.1 in
    let shorter : length left.0.rest < length point.rest = b.shorter in
    let rest = left_all most quantum false left.0 runs (omega arith) left.3 in
    (rw (b.is) (rw (rest.0, left.2) refl), b.later most ∙ rest.1)

-- runs behind another end later, and neighbours have different values
abbrev pub Rise : Run → List Run → Type 0
Rise last [] = Unit {0}
Rise last (run ∷ runs) = (last.end < run.end) × (run.value ≢ last.value) × Rise run runs

pub left_rises : (quantum : ℕ) (point : Point) (runs : List Run) → Left quantum (least_run quantum false point) runs → Rise point.run runs
left_rises quantum point [] left = tt
left_rises quantum point (run ∷ runs) left =
    let b : Begins quantum false point left.0 = begins quantum false point left.0 left.1 in
    (rw left.2 at b.longer, rw left.2 at (b.differs refl), rw left.2 at (left_rises quantum left.0 runs left.3))

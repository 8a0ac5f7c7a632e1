-- What a table that was written is read as.
use Rattle.std.proofs.Common.{◌≡◌, ◌≢◌, ℕ, zero, suc, ℤ, pos, negsuc, ◌+◌, ◌-◌, ◌*◌, ◌/◌, ◌%◌, ◌^◌, ◌<◌, ◌≤◌, ◌==◌, ◌+ℤ◌, ◌-ℤ◌, Bool, true, false, not, ◌&&◌, nat_lt, List, [], ◌∷◌, ◌++◌, length, drop, Some, IsTrue, ◌⊎◌, inl, inr, refl, ap, arith, append_assoc, length-append}
use Rattle.std.proofs.lemmas.Bool.{le-ltb, lt-ltb, cases_lt}
use Rattle.std.proofs.lemmas.Bool.Decides.{nat_tests}
use Rattle.std.proofs.lemmas.Int.{ints}
use Rattle.pcvalue.specs.declared.run.Run.{Run}
use Rattle.pcvalue.specs.Varint.{varint, varint_within}
use Rattle.pcvalue.specs.Runs.{Point, Another, zigzag, fits_i32, next_run, run_by, run_over, runs_within, runs_of}
use Rattle.pcvalue.specs.Table.{runs_at}
use Rattle.pcvalue.specs.Writing.{number_bytes_within, number_bytes, zigzag_code, no_run, run_bytes, bytes_behind, table_bytes, CanFollow, CanStand, AreRuns}

-- what so many bytes can spell at most
abbrev limit : ℕ → ℕ
limit zero = 1
limit (suc most) = 128 * limit most

more_bytes : (most number : ℕ) → 128 ≤ number → number < limit (suc most) → 0 < most
more_bytes zero number large fits = absurd (omega arith)
more_bytes (suc most) number large fits = omega arith

number_back_within : (most number : ℕ) (more : List ℕ) → 0 < most → number < limit most → number < 2 ^ 32
    → varint_within most (number_bytes_within most number ++ more) ≡ Some (number, more)
unfolding varint_within number_bytes_within
number_back_within zero number more some fits short = absurd (omega arith)
number_back_within (suc most) number more some fits short =
    elim (cases_lt number 128) [
      | inl small ↦
          let test : nat_lt number 128 ≡ true = lt-ltb _ _ small in
          rw test (rw test refl)
      | inr large ↦
          let rest = number_back_within most (number / 128) more (more_bytes most number large fits) (omega arith) (omega arith) in
          let test : nat_lt number 128 ≡ false = le-ltb _ _ large in
          let high : nat_lt (128 + number % 128) 128 ≡ false = le-ltb _ _ (omega arith) in
          let whole : 128 + number % 128 - 128 + 128 * (number / 128) ≡ number = omega arith in
          rw test (rw (high, rest, whole) (rw (lt-ltb _ _ short) refl))
    ]

-- a number that was written is read back
pub number_back : (number : ℕ) (more : List ℕ) → number < 2 ^ 32 → varint (number_bytes number ++ more) ≡ Some (number, more)
unfolding varint number_bytes
number_back number more short = number_back_within 5 number more (omega arith) (omega arith) short

pub zigzag_back : (change : ℤ) → zigzag (zigzag_code change) ≡ change
zigzag_back (pos n) =
    let even : 2 * n % 2 ≡ 0 = omega arith in
    let half : 2 * n / 2 ≡ n = omega arith in
    rw (even, half) refl
zigzag_back (negsuc n) =
    let odd : (2 * n + 1) % 2 ≡ 1 = omega arith in
    let half : (2 * n + 1) / 2 ≡ n = omega arith in
    rw (odd, half) refl

pub code_short : (change : ℤ) → IsTrue (fits_i32 change) → zigzag_code change < 2 ^ 32
code_short (pos n) fits = grind (arith, nat_tests)
code_short (negsuc n) fits = grind (arith, nat_tests)

code_changes : (change : ℤ) → zigzag_code change ≡ 0 → change ≡ pos 0
code_changes (pos n) none = let zero_is : n ≡ 0 = omega arith in ap pos zero_is
code_changes (negsuc n) none = absurd (omega arith)

unequal : (last value : ℤ) → value -ℤ last ≡ pos 0 → value ≡ last
unequal last value none = omega (arith, ints)

changed : (last value : ℤ) → last +ℤ (value -ℤ last) ≡ value
changed last value = omega (arith, ints)

-- a run may stand where it is read: it is the first, or has a value of its own
abbrev pub MayStand : Bool → Run → Run → Type 0
MayStand first last run = (first ≡ true) ⊎ (run.value ≢ last.value)

abbrev pub code_of : Run → Run → ℕ
code_of last run = zigzag_code (run.value -ℤ last.value)

abbrev pub quanta_of : ℕ → Run → Run → ℕ
quanta_of quantum last run = (run.end - last.end) / quantum

nonzero : (n : ℕ) → (n ≡ 0 → ⊥) → (n == 0) ≡ false
nonzero n some = grind (arith, nat_tests)

and_false : (a : Bool) → (a && false) ≡ false
and_false true = refl
and_false false = refl

pub goes_on_by : (first : Bool) (last run : Run) → MayStand first last run
    → (code_of last run == 0 && not first) ≡ false
goes_on_by first last run (inl is) = rw is (and_false (code_of last run == 0))
goes_on_by first last run (inr differs) =
    let some : (code_of last run == 0) ≡ false
    = nonzero (code_of last run) (λ none. differs (unequal last.value run.value (code_changes (run.value -ℤ last.value) none))) in
    rw some refl

whole_quanta : (length quantum : ℕ) → 0 < length → length % quantum ≡ 0 → length / quantum * quantum ≡ length
whole_quanta length quantum some whole = omega arith

pub quanta_back : (quantum : ℕ) (last run : Run) → CanFollow quantum last run
    → last.end + quanta_of quantum last run * quantum ≡ run.end
quanta_back quantum last run follows =
    let longer : last.end < run.end = follows.longer in
    let whole : quanta_of quantum last run * quantum ≡ run.end - last.end
    = whole_quanta (run.end - last.end) quantum (omega arith) follows.whole in
    omega arith

pub quanta_short : (quantum : ℕ) (last run : Run) → CanFollow quantum last run → quanta_of quantum last run < 2 ^ 32
quanta_short quantum last run follows =
    let short : run.end < 2 ^ 32 = follows.short in
    omega arith

-- where a reader stands
abbrev pub point_at : Run → List ℕ → Point
point_at run rest = record { run = run; rest = rest }

pub bytes_split : (quantum : ℕ) (last run : Run) (more : List ℕ)
    → run_bytes quantum last run ++ more ≡ number_bytes (code_of last run) ++ (number_bytes (quanta_of quantum last run) ++ more)
unfolding run_bytes
bytes_split quantum last run more =
    append_assoc (number_bytes (code_of last run)) (number_bytes (quanta_of quantum last run)) more

pub code_back : (quantum : ℕ) (last run : Run) (more : List ℕ) → CanFollow quantum last run
    → varint (run_bytes quantum last run ++ more) ≡ Some (code_of last run, number_bytes (quanta_of quantum last run) ++ more)
code_back quantum last run more follows =
    rw (bytes_split quantum last run more)
    (number_back (code_of last run) (number_bytes (quanta_of quantum last run) ++ more)
    (code_short (run.value -ℤ last.value) follows.change))

-- a run that was written is read back
step_back : (quantum : ℕ) (first : Bool) (last run : Run) (more : List ℕ)
    → CanFollow quantum last run → MayStand first last run
    → next_run quantum first (point_at last (run_bytes quantum last run ++ more)) ≡ Another (point_at run more)
unfolding next_run run_by run_over
step_back quantum first last run more follows stands =
    let value : last.value +ℤ zigzag (code_of last run) ≡ run.value
    = rw (zigzag_back (run.value -ℤ last.value)) (changed last.value run.value) in
    rw (code_back quantum last run more follows)
    (rw (goes_on_by first last run stands)
    (rw (number_back (quanta_of quantum last run) more (quanta_short quantum last run follows))
    (rw (value, quanta_back quantum last run follows)
    (rw (follows.value, lt-ltb _ _ follows.short) refl))))

behind_back : (most quantum : ℕ) (last : Run) (runs : List Run) (more : List ℕ)
    → length runs < most → CanStand quantum last runs
    → runs_within most quantum false (point_at last (bytes_behind quantum last runs ++ more)) ≡ (record { runs = runs; whole = true })
unfolding runs_within bytes_behind
behind_back zero quantum last runs more enough stands = absurd (omega arith)
behind_back (suc most) quantum last [] more enough stands = unfold next_run run_by varint varint_within in refl
behind_back (suc most) quantum last (run ∷ runs) more enough stands =
    let regrouped : (run_bytes quantum last run ++ bytes_behind quantum run runs) ++ more
    ≡ run_bytes quantum last run ++ (bytes_behind quantum run runs ++ more)
    = append_assoc (run_bytes quantum last run) (bytes_behind quantum run runs) more in
    rw regrouped
    (rw (step_back quantum false last run (bytes_behind quantum run runs ++ more) stands.0 (inr stands.1))
    (rw (behind_back most quantum run runs more (omega arith) stands.2) refl))

some_bytes : (number : ℕ) → 0 < length (number_bytes number)
unfolding number_bytes number_bytes_within
some_bytes number =
    elim (cases_lt number 128) [
      | inl small ↦ rw (lt-ltb _ _ small) (omega arith)
      | inr large ↦ rw (le-ltb _ _ large) (omega arith)
    ]

some_run_bytes : (quantum : ℕ) (last run : Run) → 0 < length (run_bytes quantum last run)
unfolding run_bytes
some_run_bytes quantum last run =
    let code : 0 < length (number_bytes (code_of last run)) = some_bytes (code_of last run) in
    omega (arith, length-append (number_bytes (code_of last run)) (number_bytes (quanta_of quantum last run)))

pub enough : (quantum : ℕ) (last : Run) (runs : List Run) → length runs < length (bytes_behind quantum last runs)
unfolding bytes_behind
enough quantum last [] = omega arith
enough quantum last (run ∷ runs) =
    let rest : length runs < length (bytes_behind quantum run runs) = enough quantum run runs in
    let one : 0 < length (run_bytes quantum last run) = some_run_bytes quantum last run in
    omega (arith, length-append (run_bytes quantum last run) (bytes_behind quantum run runs))

pub all_stand : (quantum : ℕ) (run : Run) (runs : List Run) (most : ℕ) (more : List ℕ)
    → length runs < most → CanFollow quantum no_run run → CanStand quantum run runs
    → runs_within (suc most) quantum true (point_at no_run (run_bytes quantum no_run run ++ (bytes_behind quantum run runs ++ more)))
    ≡ (record { runs = run ∷ runs; whole = true })
unfolding runs_within
all_stand quantum run runs most more enough follows stands =
    rw (step_back quantum true no_run run (bytes_behind quantum run runs ++ more) follows (inl refl))
    (rw (behind_back most quantum run runs more enough stands) refl)

-- a table that was written is read back
pub table_back : (quantum : ℕ) (runs : List Run) (more : List ℕ) → AreRuns quantum runs
    → runs_of quantum (table_bytes quantum runs ++ more) ≡ (record { runs = runs; whole = true })
unfolding runs_of table_bytes bytes_behind
table_back quantum [] more are = absurd are
table_back quantum (run ∷ runs) more are =
    let regrouped : (run_bytes quantum no_run run ++ bytes_behind quantum run runs) ++ more
    ≡ run_bytes quantum no_run run ++ (bytes_behind quantum run runs ++ more)
    = append_assoc (run_bytes quantum no_run run) (bytes_behind quantum run runs) more in
    let rest : length runs < length (bytes_behind quantum run runs) = enough quantum run runs in
    let one : 0 < length (run_bytes quantum no_run run) = some_run_bytes quantum no_run run in
    let long : length runs + 1 < length (run_bytes quantum no_run run ++ (bytes_behind quantum run runs ++ more))
    = omega (arith, length-append (run_bytes quantum no_run run) (bytes_behind quantum run runs ++ more), length-append (bytes_behind quantum run runs) more) in
    let fuel : length (run_bytes quantum no_run run ++ (bytes_behind quantum run runs ++ more))
    ≡ suc (length (run_bytes quantum no_run run ++ (bytes_behind quantum run runs ++ more)) - 1) = omega arith in
    rw regrouped
    (rw fuel (all_stand quantum run runs (length (run_bytes quantum no_run run ++ (bytes_behind quantum run runs ++ more)) - 1) more (omega arith) are.0 are.1))

pub table_stands : (quantum : ℕ) (runs : List Run) (table more : List ℕ) (offset : ℕ) → AreRuns quantum runs
    → drop offset table ≡ table_bytes quantum runs ++ more
    → runs_at table offset quantum ≡ (record { runs = runs; whole = true })
table_stands quantum runs table more offset are stands = rw stands (table_back quantum runs more are)

pub some_table_bytes : (quantum : ℕ) (runs : List Run) → 0 < length (table_bytes quantum runs)
unfolding table_bytes
some_table_bytes quantum runs =
    let more : length runs < length (bytes_behind quantum no_run runs) = enough quantum no_run runs in
    omega arith

-- A table that was written is in its least form.
use Rattle.std.proofs.Common.{◌≡◌, ℕ, zero, suc, ◌+◌, ◌*◌, ◌/◌, ◌^◌, ◌<◌, ◌≤◌, ◌==◌, Bool, true, false, List, [], ◌∷◌, ◌++◌, length, inl, inr, refl, ap, ◌∙◌, arith, append_assoc, length-append}
use Rattle.std.proofs.lemmas.Bool.{le-ltb, lt-ltb, cases_lt}
use Rattle.std.proofs.lemmas.Bool.Decides.{nat_tests}
use Rattle.pcvalue.specs.declared.run.Run.{Run}
use Rattle.pcvalue.specs.Varint.{varint, varint_within}
use Rattle.pcvalue.specs.Least.{varint_len, is_shortest, is_least_within, is_least_form, IsLeastForm}
use Rattle.pcvalue.specs.Writing.{number_bytes_within, number_bytes, no_run, run_bytes, bytes_behind, table_bytes, CanFollow, CanStand, AreRuns}
use Rattle.pcvalue.proofs.WritingLemmas.{number_back, code_short, MayStand, code_of, quanta_of, goes_on_by, quanta_back, quanta_short, bytes_split, code_back, enough, table_back}

number_len : (number : ℕ) → number < 2 ^ 32 → length (number_bytes number) ≡ varint_len number
unfolding number_bytes number_bytes_within
number_len number short =
    elim (cases_lt number (2 ^ 7)) [
      | inl one ↦ rw (lt-ltb _ _ one) refl
      | inr past_one ↦ elim (cases_lt number (2 ^ 14)) [
        | inl two ↦
            let ends : number / 128 < 128 = omega arith in
            rw (le-ltb _ _ past_one, lt-ltb _ _ two, lt-ltb _ _ ends) refl
        | inr past_two ↦ elim (cases_lt number (2 ^ 21)) [
          | inl three ↦
              let second : 128 ≤ number / 128 = omega arith in
              let ends : number / 128 / 128 < 128 = omega arith in
              rw (le-ltb _ _ past_one, le-ltb _ _ past_two, lt-ltb _ _ three, le-ltb _ _ second, lt-ltb _ _ ends) refl
          | inr past_three ↦ elim (cases_lt number (2 ^ 28)) [
            | inl four ↦
                let second : 128 ≤ number / 128 = omega arith in
                let third : 128 ≤ number / 128 / 128 = omega arith in
                let ends : number / 128 / 128 / 128 < 128 = omega arith in
                rw (le-ltb _ _ past_one, le-ltb _ _ past_two, le-ltb _ _ past_three, lt-ltb _ _ four, le-ltb _ _ second, le-ltb _ _ third, lt-ltb _ _ ends) refl
            | inr past_four ↦
                let second : 128 ≤ number / 128 = omega arith in
                let third : 128 ≤ number / 128 / 128 = omega arith in
                let fourth : 128 ≤ number / 128 / 128 / 128 = omega arith in
                let ends : number / 128 / 128 / 128 / 128 < 128 = omega arith in
                rw (le-ltb _ _ past_one, le-ltb _ _ past_two, le-ltb _ _ past_three, le-ltb _ _ past_four, le-ltb _ _ second, le-ltb _ _ third, le-ltb _ _ fourth, lt-ltb _ _ ends) refl
          ]
        ]
      ]
    ]

same_number : (a b : ℕ) → a ≡ b → (a == b) ≡ true
same_number a b is = grind (arith, nat_tests)

-- a number that was written has its fewest bytes
shortest : (number : ℕ) (more : List ℕ) → number < 2 ^ 32 → is_shortest (number_bytes number ++ more) (number, more) ≡ true
shortest number more short =
    same_number (length (number_bytes number ++ more)) (varint_len number + length more)
    (length-append (number_bytes number) more ∙ ap (λ n. n + length more) (number_len number short))

quanta_count : (quantum : ℕ) (last run : Run) → CanFollow quantum last run → 0 < quanta_of quantum last run * quantum
quanta_count quantum last run follows =
    let ends : last.end + quanta_of quantum last run * quantum ≡ run.end = quanta_back quantum last run follows in
    let longer : last.end < run.end = follows.longer in
    omega arith

step_least : (most quantum : ℕ) (first : Bool) (last run : Run) (more : List ℕ)
    → CanFollow quantum last run → MayStand first last run
    → is_least_within (suc most) quantum first (run_bytes quantum last run ++ more) ≡ is_least_within most quantum false more
unfolding is_least_within
step_least most quantum first last run more follows stands =
    let code : is_shortest (run_bytes quantum last run ++ more) (code_of last run, number_bytes (quanta_of quantum last run) ++ more) ≡ true
    = rw (bytes_split quantum last run more)
    (shortest (code_of last run) (number_bytes (quanta_of quantum last run) ++ more) (code_short _ follows.change)) in
    let quanta : is_shortest (number_bytes (quanta_of quantum last run) ++ more) (quanta_of quantum last run, more) ≡ true
    = shortest (quanta_of quantum last run) more (quanta_short quantum last run follows) in
    rw (code_back quantum last run more follows)
    (rw (code, goes_on_by first last run stands)
    (rw (number_back (quanta_of quantum last run) more (quanta_short quantum last run follows))
    (rw (quanta, lt-ltb _ _ (quanta_count quantum last run follows)) refl)))

end_least : (most quantum : ℕ) (more : List ℕ) → is_least_within (suc most) quantum false (0 ∷ more) ≡ true
unfolding is_least_within varint varint_within
end_least most quantum more = rw (same_number (suc (length more)) (1 + length more) (omega arith)) refl

behind_least : (most quantum : ℕ) (last : Run) (runs : List Run) (more : List ℕ)
    → length runs < most → CanStand quantum last runs
    → is_least_within most quantum false (bytes_behind quantum last runs ++ more) ≡ true
unfolding bytes_behind
behind_least zero quantum last runs more fuel stands = absurd (omega arith)
behind_least (suc most) quantum last [] more fuel stands = end_least most quantum more
behind_least (suc most) quantum last (run ∷ runs) more fuel stands =
    let regrouped : (run_bytes quantum last run ++ bytes_behind quantum run runs) ++ more
    ≡ run_bytes quantum last run ++ (bytes_behind quantum run runs ++ more)
    = append_assoc (run_bytes quantum last run) (bytes_behind quantum run runs) more in
    rw regrouped
    (step_least most quantum false last run (bytes_behind quantum run runs ++ more) stands.0 (inr stands.1)
    ∙ behind_least most quantum run runs more (omega arith) stands.2)

all_least : (fuel quantum : ℕ) (runs : List Run) (more : List ℕ) → AreRuns quantum runs → length runs < fuel
    → is_least_within fuel quantum true (table_bytes quantum runs ++ more) ≡ true
unfolding table_bytes bytes_behind
all_least fuel quantum [] more are long = absurd are
all_least zero quantum (run ∷ runs) more are long = absurd (omega arith)
all_least (suc fuel) quantum (run ∷ runs) more are long =
    let regrouped : (run_bytes quantum no_run run ++ bytes_behind quantum run runs) ++ more
    ≡ run_bytes quantum no_run run ++ (bytes_behind quantum run runs ++ more)
    = append_assoc (run_bytes quantum no_run run) (bytes_behind quantum run runs) more in
    rw regrouped
    (step_least fuel quantum true no_run run (bytes_behind quantum run runs ++ more) are.0 (inl refl)
    ∙ behind_least fuel quantum run runs more (omega arith) are.1)

-- a table that was written is in its least form
pub table_least : (quantum : ℕ) (runs : List Run) (more : List ℕ) → AreRuns quantum runs
    → IsLeastForm quantum (table_bytes quantum runs ++ more)
unfolding is_least_form
table_least quantum runs more are =
    let long : length runs < length (table_bytes quantum runs) = unfold table_bytes in enough quantum no_run runs in
    rw (ap (λ found. found.whole) (table_back quantum runs more are))
    (all_least (length (table_bytes quantum runs ++ more)) quantum runs more are
    (omega (arith, length-append (table_bytes quantum runs) more)))

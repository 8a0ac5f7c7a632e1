-- Bytes that are written one after the other.
use Rattle.std.proofs.Common.{◌≡◌, ℕ, zero, suc, ◌+◌, ◌-◌, ◌/◌, ◌%◌, ◌<◌, ◌≤◌, List, [], ◌∷◌, ◌++◌, length, drop, get_or, refl, sym, ◌∙◌, arith, append_assoc, add-one}
use Rattle.std.proofs.lemmas.Bool.{le-ltb, lt-ltb}
use Rattle.std.proofs.Math.Seq.{drop-cons}
use Rattle.std.proofs.lemmas.List.{drop_all}
use Rattle.pcvalue.specs.declared.run.Run.{Run}
use Rattle.pcvalue.specs.Writing.{number_bytes_within, no_run, run_bytes, bytes_behind, table_bytes, CanFollow, CanStand, AreRuns}

pub pushed_last : (most number : ℕ) (bytes : List ℕ) → 0 < most → number < 128
    → bytes ++ number_bytes_within most number ≡ bytes ++ number ∷ []
unfolding number_bytes_within
pushed_last zero number bytes some small = absurd (omega arith)
pushed_last (suc most) number bytes some small = rw (lt-ltb _ _ small) refl

pub pushed_more : (most number : ℕ) (bytes : List ℕ) → 0 < most → 128 ≤ number
    → bytes ++ number_bytes_within most number ≡ (bytes ++ (128 + number % 128) ∷ []) ++ number_bytes_within (most - 1) (number / 128)
unfolding number_bytes_within
pushed_more zero number bytes some large = absurd (omega arith)
pushed_more (suc most) number bytes some large =
    let rest : suc most - 1 ≡ most = omega arith in
    rw (le-ltb _ _ large, rest)
    (sym (append_assoc bytes ((128 + number % 128) ∷ []) (number_bytes_within most (number / 128))))

-- each run can follow the one before it
abbrev pub Follow : ℕ → Run → List Run → Type 0
Follow quantum last [] = Unit {0}
Follow quantum last (run ∷ runs) = CanFollow quantum last run × Follow quantum run runs

-- the bytes of the runs below an index are written
pub record Wrote (quantum : ℕ) (runs : List Run) (index : ℕ) (last : Run) (bytes : List ℕ) : Type 0 where
  pub told : bytes ++ bytes_behind quantum last (drop index runs) ≡ table_bytes quantum runs
  pub can : Follow quantum last (drop index runs)

follow_stand : (quantum : ℕ) (last : Run) (runs : List Run) → CanStand quantum last runs → Follow quantum last runs
follow_stand quantum last [] stand = tt
follow_stand quantum last (run ∷ runs) stand = (stand.0, follow_stand quantum run runs stand.2)

follow_all : (quantum : ℕ) (runs : List Run) → AreRuns quantum runs → Follow quantum no_run runs
follow_all quantum [] are = absurd are
follow_all quantum (run ∷ runs) are = (are.0, follow_stand quantum run runs are.1)

pub wrote_none : (quantum : ℕ) (runs : List Run) → AreRuns quantum runs → Wrote quantum runs 0 no_run []
unfolding table_bytes
wrote_none quantum runs are = record { told = refl; can = follow_all quantum runs are }

pub some_quantum : (quantum : ℕ) (runs : List Run) → AreRuns quantum runs → 0 < quantum
some_quantum quantum [] are = absurd are
some_quantum quantum (run ∷ runs) are =
    let longer : 0 < run.end = are.0.longer in
    let whole : (run.end - 0) % quantum ≡ 0 = are.0.whole in
    omega arith

pub next_follows : (quantum : ℕ) (runs : List Run) (index : ℕ) (last d : Run) (bytes : List ℕ)
    → index < length runs → Wrote quantum runs index last bytes → CanFollow quantum last (get_or runs index d)
next_follows quantum runs index last d bytes inside wrote =
    let can : Follow quantum last (get_or runs index d ∷ drop (suc index) runs) = rw (drop-cons runs index d) at wrote.can in
    can.0

pub wrote_next : (quantum : ℕ) (runs : List Run) (index : ℕ) (last d : Run) (bytes more : List ℕ)
    → index < length runs → Wrote quantum runs index last bytes
    → more ≡ bytes ++ run_bytes quantum last (get_or runs index d)
    → Wrote quantum runs (index + 1) (get_or runs index d) more
unfolding bytes_behind
wrote_next quantum runs index last d bytes more inside wrote is =
    let can : Follow quantum last (get_or runs index d ∷ drop (suc index) runs) = rw (drop-cons runs index d) at wrote.can in
    let told : bytes ++ (run_bytes quantum last (get_or runs index d) ++ bytes_behind quantum (get_or runs index d) (drop (suc index) runs)) ≡ table_bytes quantum runs
    = rw (drop-cons runs index d) at wrote.told in
    rw add-one (record {
      told = rw is
          (append_assoc bytes (run_bytes quantum last (get_or runs index d)) (bytes_behind quantum (get_or runs index d) (drop (suc index) runs))
          ∙ told);
      can = can.1;
    })

pub wrote_all : (quantum : ℕ) (runs : List Run) (index : ℕ) (last : Run) (bytes : List ℕ)
    → length runs ≤ index → Wrote quantum runs index last bytes → bytes ++ 0 ∷ [] ≡ table_bytes quantum runs
unfolding bytes_behind
wrote_all quantum runs index last bytes past wrote = rw (drop_all index runs past) at wrote.told

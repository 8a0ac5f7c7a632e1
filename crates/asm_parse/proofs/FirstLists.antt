-- The first refusal of a list that has parts, one after the other.
use Rattle.std.proofs.Common.{◌≡◌, ℕ, ◌+◌, ◌<◌, ◌≤◌, Bool, true, false, cond, ◌||◌, not, nat_lt, nat_eq, List, [], ◌∷◌, ◌++◌, map, Option, Some, None, Result, Ok, Err, refl, sym, ap, ◌∙◌, subst, arith, inl, inr}
use Rattle.std.specs.Prelude.{All, ◌&&◌, nat_le}
use Rattle.std.specs.Option.{option_map, option_to_list}
use Rattle.std.proofs.lemmas.Bool.{cases_lt}
use Rattle.std.proofs.lemmas.Bool.Decides.{nat_tests}
use Rattle.std.proofs.lemmas.List.{map-append}
use Rattle.std.proofs.lemmas.List.Elements.{All-nil, All-cons, All-head, All-tail, All-append, All-weaker}
use Rattle.goasm_base.specs.Refusals.{comes_before, first_after}
use Rattle.goasm_base.proofs.RefusalLemmas.{first_after-append}
use Rattle.goasm_base.specs.declared.pos.Pos.{Pos}
use Rattle.asm_grammar.specs.declared.cause.Cause.{Cause}
use Rattle.asm_grammar.specs.declared.cause.Cause.TheVariants.{DuplicateLabel, NamelessArgument, ArgumentSizeMissing, DataOrder, ZeroDivisor, OutsideText, RawCode}
use Rattle.asm_grammar.specs.Causes as causes
use Rattle.asm_parse.specs.declared.parse_no.ParseNo.{ParseNo}
use Rattle.asm_parse.specs.declared.parse_no.ParseNo.TheVariants.{P1, P2, P3, P4, P5, P6, P7, P8, P9, P10, Memory}
use Rattle.asm_parse.specs.Refusals.{refusal}
use Rattle.asm_parse.specs.Steps.{found_if}
use Rattle.asm_parse.specs.First.{Refused, number, place_of, number_of, first_of, when, placed, no_of}

-- what an answer refuses
abbrev pub told : {T : Type 0} → Result T ParseNo → Option ParseNo
told (Ok value) = None
told (Err refused) = Some refused

abbrev pub after : Option Refused → List Refused → Option Refused
after best all = first_after place_of number_of best all

abbrev comes : Refused → Refused → Bool
comes one other = comes_before place_of number_of one other

pub lt_itself : (p : ℕ) → nat_lt p p ≡ false
lt_itself p = grind (arith, nat_tests)

pub eq_itself : (p : ℕ) → nat_eq p p ≡ true
eq_itself p = grind (arith, nat_tests)

not_before : (p m q n : ℕ) → q < p → (nat_lt p q || (nat_eq p q && nat_lt m n)) ≡ false
not_before p m q n later = grind (arith, nat_tests)

-- what stands at later places doesn't come before
stays : (first : Refused) (all : List Refused) → All (λ (r : Refused). first.place < r.place) all → after (Some first) all ≡ Some first
stays first [] later = refl
stays first (refused ∷ all) later =
    let own = All-head (λ (r : Refused). first.place < r.place) refused all later in
    let none : comes refused first ≡ false = not_before refused.place (number_of refused) first.place (number_of first) own in
    rw none (stays first all (All-tail (λ (r : Refused). first.place < r.place) refused all later))

-- the first is the one that an answer refuses, below a place
abbrev pub IsTold : Option Refused → ℕ → Option ParseNo → Type 0
IsTold first high None = first ≡ None
IsTold first high (Some refused) = (place : ℕ) × (first ≡ Some (placed place refused)) × (place < high)

-- a list stands between two places, and its first is what an answer refuses
pub record Says (all : List Refused) (low high : ℕ) (said : Option ParseNo) : Type 0 where
  pub from : All (λ (r : Refused). low ≤ r.place) all
  pub first : IsTold (first_of all) high said

pub says_none : (place : ℕ) → Says [] place place None
says_none place = record { from = All-nil (λ (r : Refused). place ≤ r.place); first = refl }

-- nothing is refused in the first part
pub passes : (one other : List Refused) (low mid high : ℕ) (said : Option ParseNo) → low ≤ mid → Says one low mid None → Says other mid high said → Says (one ++ other) low high said
passes one other low mid high said up first next = record {
  from = All-append (λ (r : Refused). low ≤ r.place) one other first.from (All-weaker (λ (r : Refused). mid ≤ r.place) (λ (r : Refused). low ≤ r.place) (λ r within. omega arith) other next.from);
  first = subst (λ (f : Option Refused). IsTold f high said) (sym (first_after-append place_of number_of None one other ∙ ap (λ (best : Option Refused). after best other) first.first)) next.first;
}

-- something is
pub stops_there : (one other : List Refused) (low mid high : ℕ) (refused : ParseNo) → low ≤ mid → mid ≤ high → Says one low mid (Some refused) → All (λ (r : Refused). mid ≤ r.place) other
    → Says (one ++ other) low high (Some refused)
stops_there one other low mid high refused up on first later =
    let own = first.first in
    let stands = stays (placed own.0 refused) other (All-weaker (λ (r : Refused). mid ≤ r.place) (λ (r : Refused). own.0 < r.place) (λ r within. omega (arith, own.2)) other later) in record {
      from = All-append (λ (r : Refused). low ≤ r.place) one other first.from (All-weaker (λ (r : Refused). mid ≤ r.place) (λ (r : Refused). low ≤ r.place) (λ r within. omega arith) other later);
      first = (own.0, first_after-append place_of number_of None one other ∙ ap (λ (best : Option Refused). after best other) own.1 ∙ stands, omega (arith, own.2));
    }

pub answer_of : (first : Option Refused) (high : ℕ) (said : Option ParseNo) → IsTold first high said → option_map no_of first ≡ said
answer_of first high None is = ap (option_map no_of) is
answer_of first high (Some refused) is = ap (option_map no_of) is.1

-- what one place says
module _ (p : ℕ) where
  pub at_place : (all : List ParseNo) → All (λ (r : Refused). p ≤ r.place) (map (placed p) all)
  at_place [] = All-nil (λ (r : Refused). p ≤ r.place)
  at_place (refused ∷ all) = All-cons (λ (r : Refused). p ≤ r.place) (placed p refused) (map (placed p) all) (omega arith) (at_place all)

  told_here : (all : List ParseNo) (said : Option ParseNo) → first_of (map (placed p) all) ≡ option_map (placed p) said → IsTold (first_of (map (placed p) all)) (p + 1) said
  told_here all None is = is
  told_here all (Some refused) is = (p, is, omega arith)

  pub says_here : (all : List ParseNo) (said : Option ParseNo) → first_of (map (placed p) all) ≡ option_map (placed p) said → Says (map (placed p) all) p (p + 1) said
  says_here all said is = record { from = at_place all; first = told_here all said is }

  split : (best : Option Refused) (one other : List ParseNo) → after best (map (placed p) (one ++ other)) ≡ after (after best (map (placed p) one)) (map (placed p) other)
  split best one other = ap (after best) (map-append (placed p) one other) ∙ first_after-append place_of number_of best (map (placed p) one) (map (placed p) other)

  least : (refused : ParseNo) → nat_lt (number refused) 1 ≡ false
  least (P1 pos) = refl
  least (P2 pos) = refl
  least (P3 pos) = refl
  least (P4 pos) = refl
  least (P5 pos) = refl
  least (P6 pos) = refl
  least (P7 pos) = refl
  least (P8 pos) = refl
  least (P9 pos) = refl
  least (P10 pos) = refl
  least Memory = refl

  -- a statement without a form comes before all else that is refused of it
  pub formless_first : (pos : Pos) (all : List ParseNo) → after (Some (placed p (P1 pos))) (map (placed p) all) ≡ Some (placed p (P1 pos))
  formless_first pos [] = refl
  formless_first pos (refused ∷ all) =
      let none : comes (placed p refused) (placed p (P1 pos)) ≡ false = rw (lt_itself p, eq_itself p, least refused) refl in
      ap (λ (b : Bool). after (Some (cond b (placed p refused) (placed p (P1 pos)))) (map (placed p) all)) none ∙ formless_first pos all

  module _ (pos : Pos) where
    abbrev pub by_cause : Option Cause → Option Refused
    by_cause found = option_map (placed p) (option_map (λ cause. refusal cause pos) found)

    number_is : (cause : Cause) → number (refusal cause pos) ≡ causes.number cause
    number_is DuplicateLabel = refl
    number_is NamelessArgument = refl
    number_is ArgumentSizeMissing = refl
    number_is DataOrder = refl
    number_is ZeroDivisor = refl
    number_is OutsideText = refl
    number_is RawCode = refl

    swapped : (cause other : Cause) (m n : ℕ)
        → Some (cond (nat_lt m n) (placed p (refusal cause pos)) (placed p (refusal other pos))) ≡ Some (placed p (refusal (cond (nat_le n m) other cause) pos))
    swapped cause other m n =
        elim (cases_lt m n) [
          | inl less ↦ (let yes : nat_lt m n ≡ true = grind (arith, nat_tests) in let not_le : nat_le n m ≡ false = grind (arith, nat_tests) in rw (yes, not_le) refl)
          | inr most ↦ (let not_lt : nat_lt m n ≡ false = grind (arith, nat_tests) in let yes : nat_le n m ≡ true = grind (arith, nat_tests) in rw (not_lt, yes) refl)
        ]

    -- one more cause, if it is one
    turn : (test : Bool) (cause : Cause) (found : Option Cause) → after (by_cause found) (map (placed p) (when test (refusal cause pos))) ≡ by_cause (found_if test cause found)
    turn false cause found = refl
    turn true cause None = refl
    turn true cause (Some other) = rw (lt_itself p, eq_itself p, number_is cause, number_is other) (swapped cause other (causes.number cause) (causes.number other))

    -- a label's cause comes before what reading found
    noted : (repeated : Bool) (found : Option Cause)
        → after (after None (map (placed p) (when repeated (P2 pos)))) (map (placed p) (option_to_list (option_map (λ cause. refusal cause pos) found))) ≡ by_cause (found_if repeated DuplicateLabel found)
    noted false None = refl
    noted false (Some cause) = refl
    noted true None = refl
    noted true (Some DuplicateLabel) = rw (lt_itself p, eq_itself p) refl
    noted true (Some NamelessArgument) = rw (lt_itself p, eq_itself p) refl
    noted true (Some ArgumentSizeMissing) = rw (lt_itself p, eq_itself p) refl
    noted true (Some DataOrder) = rw (lt_itself p, eq_itself p) refl
    noted true (Some ZeroDivisor) = rw (lt_itself p, eq_itself p) refl
    noted true (Some OutsideText) = rw (lt_itself p, eq_itself p) refl
    noted true (Some RawCode) = rw (lt_itself p, eq_itself p) refl

    lowest : (repeated disordered outside : Bool) (found : Option Cause)
        → first_of (map (placed p) (when repeated (P2 pos) ++ (option_to_list (option_map (λ cause. refusal cause pos) found) ++ (when disordered (P6 pos) ++ when outside (P9 pos)))))
        ≡ by_cause (found_if outside OutsideText (found_if disordered DataOrder (found_if repeated DuplicateLabel found)))
    lowest repeated disordered outside found =
        let labels = when repeated (P2 pos) in
        let forms = option_to_list (option_map (λ (cause : Cause). refusal cause pos) found) in
        let offsets = when disordered (P6 pos) in
        let code = when outside (P9 pos) in
        let one = found_if repeated DuplicateLabel found in
        split None labels (forms ++ (offsets ++ code))
        ∙ split (after None (map (placed p) labels)) forms (offsets ++ code)
        ∙ ap (λ (best : Option Refused). after best (map (placed p) (offsets ++ code))) (noted repeated found)
        ∙ split (by_cause one) offsets code
        ∙ ap (λ (best : Option Refused). after best (map (placed p) code)) (turn disordered DataOrder one)
        ∙ turn outside OutsideText (found_if disordered DataOrder one)

    -- all that is refused of a statement
    pub judged_first : (placed_so named repeated disordered outside : Bool) (found : Option Cause)
        → first_of (map (placed p) (when (not placed_so) (P1 pos) ++ (when (not named) (P1 pos) ++ (when repeated (P2 pos) ++ (option_to_list (option_map (λ cause. refusal cause pos) found) ++ (when disordered (P6 pos) ++ when outside (P9 pos)))))))
        ≡ option_map (placed p) (cond (placed_so && named) (option_map (λ cause. refusal cause pos) (found_if outside OutsideText (found_if disordered DataOrder (found_if repeated DuplicateLabel found)))) (Some (P1 pos)))
    judged_first true true repeated disordered outside found = lowest repeated disordered outside found
    judged_first true false repeated disordered outside found =
        formless_first pos (when repeated (P2 pos) ++ (option_to_list (option_map (λ (cause : Cause). refusal cause pos) found) ++ (when disordered (P6 pos) ++ when outside (P9 pos))))
    judged_first false named repeated disordered outside found =
        formless_first pos (when (not named) (P1 pos) ++ (when repeated (P2 pos) ++ (option_to_list (option_map (λ (cause : Cause). refusal cause pos) found) ++ (when disordered (P6 pos) ++ when outside (P9 pos)))))

-- What code that stands in a function tells of the function's positions.
use Rattle.std.proofs.Common.{◌≡◌, ℕ, zero, suc, List, [], ◌∷◌, ◌++◌, ◌+◌, ◌<◌, Some, length, drop, refl, sym, ap, ◌∙◌, subst, arith, inl, inr}
use Rattle.std.proofs.lemmas.Bool.{cases_order}
use Rattle.std.proofs.lemmas.List.{drop-drop}
use Rattle.std.proofs.lemmas.List.Elements.{All-head, All-tail}
use Rattle.std.specs.List.{slice_get}
use Rattle.std.specs.Prelude.{All, ◌-◌}
use Rattle.asm_target.specs.Sequences.{count_of}
use Rattle.machine_effect.specs.declared.flow.Shape.{Shape}
use Rattle.asm_target.specs.declared.sequence.Sequence.{Sequence}
use Rattle.asm_target.specs.FlowFunction.{FlowFunction}
use Rattle.asm_target.specs.InstructionSet.{InstructionSet}
use Rattle.asm_target.specs.SequenceLaws.{StandsApart}
use Rattle.asm_target.specs.Standing.{HasCode}
use Rattle.asm_target.proofs.RoleLemmas.{AreApart}

pub slice_get-drop : {A : Type 0} (n : ℕ) (xs : List A) (k : ℕ) → slice_get (drop n xs) k ≡ slice_get xs (n + k)
slice_get-drop {A} zero xs k = (let same : k ≡ 0 + k = omega arith in ap (slice_get xs) same)
slice_get-drop {A} (suc n) [] k = refl
slice_get-drop {A} (suc n) (x ∷ xs) k =
    (let same : suc (n + k) ≡ suc n + k = omega arith in slice_get-drop n xs k ∙ ap (slice_get (x ∷ xs)) same)

pub slice_get-front : {A : Type 0} (xs ys : List A) (k : ℕ) (x : A) → slice_get xs k ≡ Some x
    → slice_get (xs ++ ys) k ≡ Some x
slice_get-front {A} [] ys k x is = absurd (cc)
slice_get-front {A} (y ∷ xs) ys zero x is = is
slice_get-front {A} (y ∷ xs) ys (suc k) x is = slice_get-front xs ys k x is

-- there is an item at each number below the length
pub item_at : {A : Type 0} (xs : List A) (k : ℕ) → k < length xs → (x : A) × (slice_get xs k ≡ Some x)
item_at {A} [] k less = absurd (omega arith)
item_at {A} (x ∷ xs) zero less = (x, refl)
item_at {A} (x ∷ xs) (suc k) less = item_at xs k (omega arith)

-- what holds of all items holds of the one at a number
pub fit_at : {A : Type 0} (P : A → Type 0) (xs : List A) (k : ℕ) (x : A) → All P xs → slice_get xs k ≡ Some x → P x
fit_at {A} P [] k x all is = absurd (cc)
fit_at {A} P (y ∷ xs) zero x all is = (let same : y ≡ x = cc in subst P same (All-head P y xs all))
fit_at {A} P (y ∷ xs) (suc k) x all is = fit_at P xs k x (All-tail P y xs all) is

module _ {Instr : Type 0} (set : InstructionSet Instr) (fits : Instr → Type 0) (begins : List Instr → Sequence) (shape : Shape) where
  -- an instruction of the code is the function's at its place
  pub instr_here : (all code rest : List Instr) (at k : ℕ) (i : Instr) → drop at all ≡ code ++ rest → slice_get code k ≡ Some i
      → slice_get all (at + k) ≡ Some i
  instr_here all code rest at k i here is =
      sym (slice_get-drop at all k) ∙ ap (λ (xs : List Instr). slice_get xs k) here ∙ slice_get-front code rest k i is

  pub apart_positions : ((code : List Instr) → StandsApart begins code) → (f : FlowFunction) (all : List Instr)
      → HasCode set fits begins shape f all → AreApart f
  apart_positions apart f all has = record {
    some = λ s. rw (has.found s) (apart (drop s all)).some;
    apart = λ s j more less.
        let behind : drop (s + j) all ≡ drop j (drop s all) = sym (drop-drop j s all) in
        has.found (s + j) ∙ ap begins behind
        ∙ (apart (drop s all)).apart j more (subst (λ (q : Sequence). j < count_of q) (has.found s) less);
  }

  -- the places of a function's instructions rise
  rises : (f : FlowFunction) (all : List Instr) → HasCode set fits begins shape f all
      → ((i : Instr) → fits i → 0 < length (set.spelling i)) → (i n : ℕ) → i + suc n < f.count → f.at i < f.at (i + suc n)
  rises f all has longs i zero inside =
      let there = item_at all i (omega (arith, has.count)) in
      let long = longs there.0 (fit_at fits all i there.0 has.fit there.1) in
      let step : f.at (suc i) ≡ f.at i + length (set.spelling there.0) = has.follows i there.0 there.1 (omega arith) in
      let same : i + 1 ≡ suc i = omega arith in
      subst (λ (p : ℕ). f.at i < f.at p) (sym same) (omega arith)
  rises f all has longs i (suc n) inside =
      let before = rises f all has longs i n (omega arith) in
      let there = item_at all (i + suc n) (omega (arith, has.count)) in
      let long = longs there.0 (fit_at fits all (i + suc n) there.0 has.fit there.1) in
      let step : f.at (suc (i + suc n)) ≡ f.at (i + suc n) + length (set.spelling there.0) =
      has.follows (i + suc n) there.0 there.1 (omega arith) in
      let same : i + suc (suc n) ≡ suc (i + suc n) = omega arith in
      subst (λ (p : ℕ). f.at i < f.at p) (sym same) (omega arith)

  less_place : (f : FlowFunction) (all : List Instr) → HasCode set fits begins shape f all
      → ((i : Instr) → fits i → 0 < length (set.spelling i)) → (i j : ℕ) → i < j → j < f.count → f.at i < f.at j
  less_place f all has longs i j less inside =
      let same : i + suc (j - suc i) ≡ j = omega arith in
      subst (λ (p : ℕ). f.at i < f.at p) same (rises f all has longs i (j - suc i) (omega arith))

  -- so one address is that of one position
  pub one_place : (f : FlowFunction) (all : List Instr) → HasCode set fits begins shape f all
      → ((i : Instr) → fits i → 0 < length (set.spelling i))
      → (i j : ℕ) → i < f.count → j < f.count → f.at i ≡ f.at j → i ≡ j
  one_place f all has longs i j first second same =
      elim (cases_order i j) as (λ _. i ≡ j) [
        | inl equal ↦ equal
        | inr (inl less) ↦ absurd (omega (arith, less_place f all has longs i j less second))
        | inr (inr more) ↦ absurd (omega (arith, less_place f all has longs j i more first))
      ]

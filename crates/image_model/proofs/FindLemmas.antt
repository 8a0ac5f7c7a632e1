-- What is found among numbers.
use Rattle.std.proofs.Common.{◌≡◌, ℕ, zero, suc, ◌<◌, Bool, true, false, Option, Some, None, refl, ap, ◌∙◌, arith, inl, inr}
use Rattle.std.proofs.lemmas.Bool.{cases_order}
use Rattle.std.specs.Option.{option_map, option_or}
use Rattle.image_model.specs.Joined.{only_if, some_below}

-- where all that's found is the same, it's found
pub finds : {A : Type 0} (find : ℕ → Option A) (n k : ℕ) (x : A) → k < n → find k ≡ Some x
    → ((j : ℕ) (y : A) → j < n → find j ≡ Some y → y ≡ x) → some_below find n ≡ Some x
finds find zero k x less is one = absurd (omega arith)
finds {A} find (suc n) k x less is one =
    elim (find n) as (λ (o : Option A). find n ≡ o → option_or o (some_below find n) ≡ Some x) [
      | Some y ↦ (λ found. ap Some (one n y (omega arith) found))
      | None ↦ (λ none.
          elim (cases_order k n) as (λ _. some_below find n ≡ Some x) [
            | inl same ↦ absurd (cc (is, none, same))
            | inr (inl under) ↦ finds find n k x under is (λ j y below found. one j y (omega arith) found)
            | inr (inr over) ↦ absurd (omega arith)
          ])
    ] refl

-- what's found stands at a number
pub some_is : {A : Type 0} (find : ℕ → Option A) (n : ℕ) (x : A) → some_below find n ≡ Some x
    → (k : ℕ) × (k < n) × (find k ≡ Some x)
some_is find zero x found = absurd (cc)
some_is {A} find (suc n) x found =
    elim (find n) as (λ (o : Option A). find n ≡ o → option_or o (some_below find n) ≡ Some x → (k : ℕ) × (k < suc n) × (find k ≡ Some x)) [
      | Some y ↦ (λ is found. (n, omega arith, is ∙ found))
      | None ↦ (λ none found.
          let there = some_is find n x found in
          (there.0, omega (arith, there.1), there.2))
    ] refl found

pub only_some : {A : Type 0} (test : Bool) (x y : A) → only_if test x ≡ Some y → (test ≡ true) × (x ≡ y)
only_some true x y is = (refl, cc)
only_some false x y is = absurd (cc)

pub only_here : {A : Type 0} (test : Bool) (x : A) → test ≡ true → only_if test x ≡ Some x
only_here true x is = refl
only_here false x is = absurd (cc)

pub map_some : {A B : Type 0} (give : A → B) (found : Option A) (y : B) → option_map give found ≡ Some y
    → (x : A) × (found ≡ Some x) × (give x ≡ y)
map_some give (Some x) y is = (x, refl, cc)
map_some give None y is = absurd (cc)

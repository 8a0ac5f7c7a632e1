-- The first of several refusals, by their order.
use Rattle.std.proofs.Common.{◌≡◌, ℕ, zero, suc, ◌+◌, ◌<◌, add-one, ◌⊎◌, inl, inr, Bool, true, false, ◌&&◌, ◌||◌, nat_lt, nat_eq, List, [], ◌∷◌, ◌++◌, Option, Some, None, refl, sym, ◌∙◌, arith, Contains}
use Rattle.std.proofs.lemmas.Bool.{cases_Bool, cases_lt}
use Rattle.std.proofs.lemmas.Bool.Decides.{nat_tests}
use Rattle.std.proofs.lemmas.List.Elements.{All-from_recursion}
use Rattle.std.specs.List.{AllByRecursion}
use Rattle.goasm_base.specs.Refusals.{first_below, comes_before, earlier, first_after, first_of, IsFirst}

module _ {A : Type 0} (at : ℕ → Option A) where
  pub below_zero : first_below 0 at ≡ None
  unfolding first_below
  below_zero = refl

  -- one more place at which there is none
  pub below_next : (count : ℕ) → first_below count at ≡ None → at count ≡ None → first_below (count + 1) at ≡ None
  unfolding first_below
  below_next count before here = rw (add-one, before) here

  -- the first place at which there is one
  pub below_found : (index count : ℕ) (first : A)
      → index < count → first_below index at ≡ None → at index ≡ Some first → first_below count at ≡ Some first
  unfolding first_below
  below_found index zero first inside before here = absurd (omega arith)
  below_found index (suc count) first inside before here =
      elim (cases_lt index count) [
        | inl earlier ↦ rw (below_found index count first earlier before here) refl
        | inr last ↦
            let same : count ≡ index = omega arith in
            rw (same, before) here
      ]

-- the order of two places with two numbers
abbrev before : ℕ → ℕ → ℕ → ℕ → Bool
before p m q n = nat_lt p q || (nat_eq p q && nat_lt m n)

before_itself : (p m : ℕ) → before p m p m ≡ false
before_itself p m = grind (arith, nat_tests)

-- what stands before another isn't passed by what doesn't pass that
passed : (p m q n r o : ℕ) → before p m q n ≡ true → before p m r o ≡ false → before q n r o ≡ false
passed p m q n r o lower one = grind (arith, nat_tests)

kept : (p m q n r o : ℕ) → before q n p m ≡ false → before r o q n ≡ false → before r o p m ≡ false
kept p m q n r o one other = grind (arith, nat_tests)

module _ {A : Type 0} (place number : A → ℕ) where
  -- the first of two lists, one after the other
  pub first_after-append : (best : Option A) (one other : List A)
      → first_after place number best (one ++ other) ≡ first_after place number (first_after place number best one) other
  first_after-append best [] other = refl
  first_after-append best (refusal ∷ one) other = first_after-append (Some (earlier place number best refusal)) one other

  -- a refusal that was chosen among one and those of a list
  record IsChosen (best : A) (refusals : List A) (first : A) : Type 0 where
    is : first_after place number (Some best) refusals ≡ Some first
    one : comes_before place number best first ≡ false
    all : AllByRecursion (λ other. comes_before place number other first ≡ false) refusals
    from : (first ≡ best) ⊎ Contains refusals first

  later : (refusals : List A) (refusal next : A) → Contains refusals refusal → Contains (next ∷ refusals) refusal
  later refusals refusal next (k, inside, is) = (suc k, omega arith, is)

  either : (refusals : List A) (next best first : A) → (first ≡ next) ⊎ Contains refusals first
      → (first ≡ best) ⊎ Contains (next ∷ refusals) first
  either refusals next best first (inl same) = inr (0, omega arith, sym same)
  either refusals next best first (inr inside) = inr (later refusals first next inside)

  other : (refusals : List A) (next best first : A) → (first ≡ best) ⊎ Contains refusals first
      → (first ≡ best) ⊎ Contains (next ∷ refusals) first
  other refusals next best first (inl same) = inl same
  other refusals next best first (inr inside) = inr (later refusals first next inside)

  chosen : (best : A) (refusals : List A) → (first : A) × IsChosen best refusals first
  chosen best [] = (best, record { is = refl; one = before_itself (place best) (number best); all = tt; from = inl refl })
  chosen best (next ∷ refusals) =
      elim (cases_Bool (comes_before place number next best)) [
        | inl lower ↦
            let rest = chosen next refusals in (
              rest.0,
              record {
                is = rw lower rest.1.is;
                one = passed (place next) (number next) (place best) (number best) (place rest.0) (number rest.0) lower rest.1.one;
                all = (rest.1.one, rest.1.all);
                from = either refusals next best rest.0 rest.1.from;
              },
            )
        | inr not_lower ↦
            let rest = chosen best refusals in (
              rest.0,
              record {
                is = rw not_lower rest.1.is;
                one = rest.1.one;
                all = (kept (place rest.0) (number rest.0) (place best) (number best) (place next) (number next) rest.1.one not_lower, rest.1.all);
                from = other refusals next best rest.0 rest.1.from;
              },
            )
      ]

  -- the fold finds a refusal before which none comes
  pub first_found : (refusals : List A) (first : A) → first_of place number refusals ≡ Some first → IsFirst place number refusals first
  first_found [] first is = cc
  first_found (next ∷ refusals) first is =
      let found = chosen next refusals in
      let same : found.0 ≡ first = (let found_is : Some found.0 ≡ Some first = sym found.1.is ∙ is in cc) in
      let least : AllByRecursion (λ other. comes_before place number other found.0 ≡ false) (next ∷ refusals)
      = (found.1.one, found.1.all) in
      let there : Contains (next ∷ refusals) found.0
      = elim found.1.from [
        | inl same ↦ (0, omega arith, sym same)
        | inr inside ↦ later refusals found.0 next inside
      ] in
      rw (← same)
      (record { there = there; before = All-from_recursion (λ other. comes_before place number other found.0 ≡ false) (next ∷ refusals) least })

  -- where it finds none, there is none
  pub none_found : (refusals : List A) → first_of place number refusals ≡ None → refusals ≡ []
  none_found [] is = refl
  none_found (next ∷ refusals) is =
      let found = chosen next refusals in
      let wrong : Some found.0 ≡ None = sym found.1.is ∙ is in
      cc

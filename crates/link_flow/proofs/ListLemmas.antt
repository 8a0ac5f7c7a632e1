-- Lists up to one of their items.
use Rattle.std.proofs.Common.{◌≡◌, ℕ, zero, suc, ◌+◌, ◌≤◌, List, [], ◌∷◌, ◌++◌, All, length, map, take, ◌⊎◌, inl, inr, Option, Some, None, refl, sym, ap, subst, ◌∙◌, rules}
use Rattle.std.specs.Prelude.{IsSome}
use Rattle.std.specs.List.{slice_get}
use Rattle.std.specs.Option.{option_map}
use Rattle.std.proofs.lemmas.List.{take_all}
use Rattle.std.proofs.lemmas.List.Elements.{All-more}
use Rattle.std.proofs.lemmas.Option.{get_or_from_slice_get, slice_get-map, slice_get_within}

pub from_take : {X : Type 0} (n : ℕ) (xs : List X) (k : ℕ) (x : X) → slice_get (take n xs) k ≡ Some x → slice_get xs k ≡ Some x
from_take zero xs k x is = absurd (cc)
from_take (suc n) [] k x is = absurd (cc)
from_take (suc n) (y ∷ ys) zero x is = is
from_take (suc n) (y ∷ ys) (suc k) x is = from_take n ys k x is

-- an item is the last one, or one of those before
pub at_front : {X : Type 0} (xs : List X) (x : X) (k : ℕ) (y : X) → slice_get (xs ++ x ∷ []) k ≡ Some y
    → (slice_get xs k ≡ Some y) ⊎ ((k ≡ length xs) × (x ≡ y))
at_front [] x zero y is = inr (refl, cc)
at_front [] x (suc k) y is = absurd (cc)
at_front (z ∷ xs) x zero y is = inl is
at_front (z ∷ xs) x (suc k) y is =
    elim (at_front xs x k y is) [
      | inl before ↦ inl before
      | inr last ↦ inr (ap suc last.0, last.1)
    ]

pub mapped_at : {X Y : Type 0} (f : X → Y) (xs : List X) (k : ℕ) (x : X) → slice_get xs k ≡ Some x → slice_get (map f xs) k ≡ Some (f x)
mapped_at f xs k x here = slice_get-map f xs k ∙ ap (option_map f) here

module _ {X : Type 0} (P : X → Type 0) (xs : List X) where
  pub one_more : (n : ℕ) (x : X) → slice_get xs n ≡ Some x → P x → All P (take n xs) → All P (take (n + 1) xs)
  one_more n x here holds before =
      All-more P xs n x (slice_get_within xs n x here) before (subst P (sym (get_or_from_slice_get xs n x x here)) holds)

  pub of_all : (n : ℕ) → length xs ≤ n → All P (take n xs) → All P xs
  of_all n long before = subst (All P) (take_all n xs long) before

pub some_there : {X : Type 0} (found : Option X) → ¬ (found ≡ None) → IsSome found
some_there (Some x) there = search rules
some_there None there = absurd (there refl)

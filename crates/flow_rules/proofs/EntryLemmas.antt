-- What a search by halves tells of numbers in order.
use Rattle.std.proofs.Common.{◌≡◌, ℕ, suc, ◌<◌, ◌==◌, false, List, [], ◌∷◌, length, get_or, Result, Ok, Err, is_ok, refl, sym, arith, inl, inr}
use Rattle.std.specs.List.{list_any}
use Rattle.std.specs.List.Sorted.{IsBinarySearchResult, IsNonDecreasing}
use Rattle.std.specs.Ordering.{nat_cmp}
use Rattle.std.proofs.lemmas.Bool.{cases_lt}
use Rattle.std.proofs.lemmas.Bool.Decides.{Decides-eqb}
use Rattle.std.proofs.lemmas.List.Folds.{list_any_at}
use Rattle.std.proofs.lemmas.List.Sorted.{searched}
use Rattle.flow_rules.proofs.HitLemmas.{unequal}

nowhere : (xs : List ℕ) (x : ℕ) → ((k : ℕ) → k < length xs → ¬ (get_or xs k 0 ≡ x)) → list_any (λ y. y == x) xs ≡ false
nowhere [] x none = refl
nowhere (y ∷ ys) x none =
    let here : (y == x) ≡ false = unequal y x (none 0 (omega arith)) in
    rw (here, nowhere ys x (λ k less. none (suc k) (omega arith))) refl

pub searched_entries : (xs : List ℕ) (x : ℕ) (found : Result ℕ ℕ) → IsBinarySearchResult (λ y. nat_cmp y x) xs found
    → IsNonDecreasing xs → is_ok found ≡ list_any (λ y. y == x) xs
searched_entries xs x (Ok i) is order =
    let at = searched xs x (Ok i) is (λ i j low inside. order i j 0 low inside) in
    sym (list_any_at (λ y. y == x) xs i 0 at.0 ((Decides-eqb (get_or xs i 0) x).1 at.1))
searched_entries xs x (Err i) is order =
    let at = searched xs x (Err i) is (λ i j low inside. order i j 0 low inside) in
    sym (nowhere xs x (λ k less same.
    elim (cases_lt k i) as (λ _. ⊥) [
      | inl before ↦ omega (arith, at.1 k before)
      | inr behind ↦ omega (arith, at.2 k behind less)
    ]))

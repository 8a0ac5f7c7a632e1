-- What holds of each element of a list, by their numbers.
use Rattle.std.proofs.Common.{◌≡◌, ℕ, zero, suc, ◌+◌, ◌<◌, ◌≤◌, ◌++◌, Bool, true, false, List, [], ◌∷◌, All, length, get_or, take, map, filter, cond, if◌then◌else◌, ◌∙◌, Some, None, refl, ap, subst, add-one, arith}
use Rattle.std.proofs.lemmas.List.{map-append}
use Rattle.std.proofs.lemmas.List.Elements.{filter-append}
use Rattle.std.specs.List.{slice_get}
use Rattle.std.proofs.lemmas.Option.{get_or_from_slice_get, slice_get-get_or, slice_get_within}

pub past_all : {A : Type 0} (xs : List A) (k : ℕ) → slice_get xs k ≡ None → length xs ≤ k
past_all [] k none = omega arith
past_all (x ∷ xs) zero none = absurd (cc)
past_all (x ∷ xs) (suc k) none = omega (arith, past_all xs k none)

pub all_below : {A : Type 0} (P : A → Type 0) (xs : List A) (n : ℕ) → ((k : ℕ) (x : A) → k < n → slice_get xs k ≡ Some x → P x)
    → length xs ≤ n → All P xs
all_below P xs n each few = λ k d less. each k (get_or xs k d) (omega arith) (slice_get-get_or xs k d less)

pub all_at : {A : Type 0} (P : A → Type 0) (xs : List A) (k : ℕ) (x : A) → All P xs → slice_get xs k ≡ Some x → P x
all_at P xs k x all is = subst P (get_or_from_slice_get xs k x x is) (all k x (slice_get_within xs k x is))

-- one more element of a list
pub take_on : {A : Type 0} (xs : List A) (k : ℕ) (x : A) → slice_get xs k ≡ Some x → take (suc k) xs ≡ take k xs ++ (x ∷ [])
take_on [] k x is = absurd (cc)
take_on (y ∷ ys) zero x is = let same : y ≡ x = cc in rw same refl
take_on (y ∷ ys) (suc k) x is = ap (λ zs. y ∷ zs) (take_on ys k x is)

pub map_on : {A B : Type 0} (f : A → B) (xs : List A) (k : ℕ) (x : A) → slice_get xs k ≡ Some x
    → map f (take (k + 1) xs) ≡ map f (take k xs) ++ (f x ∷ [])
map_on f xs k x is =
    ap (λ zs. map f zs) (ap (λ n. take n xs) (add-one k) ∙ take_on xs k x is) ∙ map-append f (take k xs) (x ∷ [])

-- and of those that pass a test
pub chosen_on : {A B : Type 0} (f : A → B) (test : A → Bool) (xs : List A) (k : ℕ) (x : A) → slice_get xs k ≡ Some x
    → map f (filter test (take (k + 1) xs)) ≡ map f (filter test (take k xs)) ++ (if test x then f x ∷ [] else [])
chosen_on f test xs k x is =
    ap (λ zs. map f (filter test zs)) (ap (λ n. take n xs) (add-one k) ∙ take_on xs k x is)
    ∙ ap (map f) (filter-append test (take k xs) (x ∷ []))
    ∙ map-append f (filter test (take k xs)) (filter test (x ∷ []))
    ∙ ap (λ zs. map f (filter test (take k xs)) ++ zs) (one (test x))
  where
    one : (passes : Bool) → map f (cond passes (x ∷ []) []) ≡ if passes then f x ∷ [] else []
    one true = refl
    one false = refl

-- One more item of a list that is appended to another.
use Rattle.std.proofs.Common.{◌≡◌, ℕ, zero, suc, ◌+◌, List, [], ◌∷◌, ◌++◌, Some, map, take, refl, sym, ap, ◌∙◌, arith, append_assoc}
use Rattle.std.specs.List.{slice_get}
use Rattle.asm_target.specs.declared.refer.Picked.{Picked}
use Rattle.stack_split.specs.Opening.{plain}

take_item : {A : Type 0} (xs : List A) (k : ℕ) (x : A) → slice_get xs k ≡ Some x → take (suc k) xs ≡ take k xs ++ x ∷ []
take_item {A} [] k x is = absurd (cc)
take_item {A} (y ∷ xs) zero x is = (let same : y ≡ x = cc in ap (λ (z : A). z ∷ []) same)
take_item {A} (y ∷ xs) (suc k) x is = ap (λ (zs : List A). y ∷ zs) (take_item xs k x is)

take_next : {A : Type 0} (xs : List A) (k : ℕ) (x : A) → slice_get xs k ≡ Some x → take (k + 1) xs ≡ take k xs ++ x ∷ []
take_next {A} xs k x is =
    (let one : k + 1 ≡ suc k = omega arith in ap (λ (n : ℕ). take n xs) one ∙ take_item xs k x is)

map_next : {A : Type 0} (xs : List A) (x : A) → map plain (xs ++ x ∷ []) ≡ map plain xs ++ plain x ∷ []
map_next {A} [] x = refl
map_next {A} (y ∷ xs) x = ap (λ (zs : List (Picked A)). plain y ∷ zs) (map_next xs x)

pub appended : {A : Type 0} (before code next more : List A) (k : ℕ) (x : A) → code ≡ before ++ take k more
    → slice_get more k ≡ Some x → next ≡ code ++ x ∷ [] → next ≡ before ++ take (k + 1) more
appended {A} before code next more k x so_far is pushed =
    pushed ∙ ap (λ (zs : List A). zs ++ x ∷ []) so_far ∙ append_assoc before (take k more) (x ∷ [])
    ∙ ap (λ (zs : List A). before ++ zs) (sym (take_next more k x is))

pub appended_plain : {A : Type 0} (before code next : List (Picked A)) (more : List A) (k : ℕ) (x : A)
    → code ≡ before ++ map plain (take k more) → slice_get more k ≡ Some x → next ≡ code ++ plain x ∷ []
    → next ≡ before ++ map plain (take (k + 1) more)
appended_plain {A} before code next more k x so_far is pushed =
    pushed ∙ ap (λ (zs : List (Picked A)). zs ++ plain x ∷ []) so_far ∙ append_assoc before (map plain (take k more)) (plain x ∷ [])
    ∙ ap (λ (zs : List (Picked A)). before ++ zs) (sym (ap (map plain) (take_next more k x is) ∙ map_next (take k more) x))

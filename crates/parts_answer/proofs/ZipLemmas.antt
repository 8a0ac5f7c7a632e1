-- Lists whose items are alike one by one.
use Rattle.std.proofs.Common.{◌≡◌, ℕ, zero, suc, ◌+◌, List, [], ◌∷◌, ◌++◌, length, map, Some, refl, ap, ◌∙◌, subst, arith}
use Rattle.std.proofs.lemmas.Option.{same_Some}
use Rattle.std.specs.List.{AllZip, flat_map, slice_get}
use Rattle.link_names.specs.Definitions.{each_from}

module _ {X Y : Type 0} (R : X → Y → Type 0) where
  zip_append : (xs more : List X) (ys others : List Y) → AllZip R xs ys → AllZip R more others → AllZip R (xs ++ more) (ys ++ others)
  zip_append [] more [] others none rest = rest
  zip_append [] more (y ∷ ys) others none rest = absurd none
  zip_append (x ∷ xs) more [] others none rest = absurd none
  zip_append (x ∷ xs) more (y ∷ ys) others all rest = (all.0, zip_append xs more ys others all.1 rest)

module _ {X Y : Type 0} (R : X → Y → Type 0) where
  -- items at one number are alike
  pub zip_at : (xs : List X) (ys : List Y) (number : ℕ) (x : X) (y : Y) → AllZip R xs ys → slice_get xs number ≡ Some x
      → slice_get ys number ≡ Some y → R x y
  zip_at [] ys number x y all here there = absurd (cc)
  zip_at (x' ∷ xs) [] number x y none here there = absurd none
  zip_at (x' ∷ xs) (y' ∷ ys) zero x y all here there =
      subst (λ x. R x y) (same_Some x' x here) (subst (λ y. R x' y) (same_Some y' y there) all.0)
  zip_at (x' ∷ xs) (y' ∷ ys) (suc number) x y all here there = zip_at xs ys number x y all.1 here there

  pub zip_from : (xs : List X) (ys : List Y) → length xs ≡ length ys
      → ((number : ℕ) (x : X) (y : Y) → slice_get xs number ≡ Some x → slice_get ys number ≡ Some y → R x y) → AllZip R xs ys
  zip_from [] [] long alike = tt
  zip_from [] (y ∷ ys) long alike = absurd (omega arith)
  zip_from (x ∷ xs) [] long alike = absurd (omega arith)
  zip_from (x ∷ xs) (y ∷ ys) long alike =
      (alike 0 x y refl refl, zip_from xs ys (omega arith) (λ number x y here there. alike (suc number) x y here there))

  module _ {U V : Type 0} (S : U → V → Type 0) where
    pub zip_map : (make : X → U) (other : Y → V) → ((x : X) (y : Y) → R x y → S (make x) (other y)) → (xs : List X) (ys : List Y)
        → AllZip R xs ys → AllZip S (map make xs) (map other ys)
    zip_map make other alike [] [] none = tt
    zip_map make other alike [] (y ∷ ys) none = absurd none
    zip_map make other alike (x ∷ xs) [] none = absurd none
    zip_map make other alike (x ∷ xs) (y ∷ ys) all = (alike x y all.0, zip_map make other alike xs ys all.1)

    pub zip_each : (make : ℕ → X → List U) (other : ℕ → Y → List V)
        → ((number : ℕ) (x : X) (y : Y) → R x y → AllZip S (make number x) (other number y)) → (number : ℕ) (xs : List X) (ys : List Y)
        → AllZip R xs ys → AllZip S (each_from number make xs) (each_from number other ys)
    unfolding each_from
    zip_each make other alike number [] [] none = tt
    zip_each make other alike number [] (y ∷ ys) none = absurd none
    zip_each make other alike number (x ∷ xs) [] none = absurd none
    zip_each make other alike number (x ∷ xs) (y ∷ ys) all =
        zip_append S (make number x) (each_from (number + 1) make xs) (other number y) (each_from (number + 1) other ys)
        (alike number x y all.0) (zip_each make other alike (number + 1) xs ys all.1)

module _ {X : Type 0} (R : X → X → Type 0) {U : Type 0} where
  -- what is made alike of each is one list
  pub same_map : (make : X → U) → ((x y : X) → R x y → make x ≡ make y) → (xs ys : List X) → AllZip R xs ys → map make xs ≡ map make ys
  same_map make same [] [] none = refl
  same_map make same [] (y ∷ ys) none = absurd none
  same_map make same (x ∷ xs) [] none = absurd none
  same_map make same (x ∷ xs) (y ∷ ys) all =
      ap (λ first. first ∷ map make xs) (same x y all.0) ∙ ap (λ rest. make y ∷ rest) (same_map make same xs ys all.1)

  pub same_flat : (make : X → List U) → ((x y : X) → R x y → make x ≡ make y) → (xs ys : List X) → AllZip R xs ys
      → flat_map make xs ≡ flat_map make ys
  same_flat make same [] [] none = refl
  same_flat make same [] (y ∷ ys) none = absurd none
  same_flat make same (x ∷ xs) [] none = absurd none
  same_flat make same (x ∷ xs) (y ∷ ys) all =
      ap (λ front. front ++ flat_map make xs) (same x y all.0) ∙ ap (λ rest. make y ++ rest) (same_flat make same xs ys all.1)

  pub same_each : (make : ℕ → X → List U) → ((number : ℕ) (x y : X) → R x y → make number x ≡ make number y) → (number : ℕ) (xs ys : List X)
      → AllZip R xs ys → each_from number make xs ≡ each_from number make ys
  unfolding each_from
  same_each make same number [] [] none = refl
  same_each make same number [] (y ∷ ys) none = absurd none
  same_each make same number (x ∷ xs) [] none = absurd none
  same_each make same number (x ∷ xs) (y ∷ ys) all =
      ap (λ front. front ++ each_from (number + 1) make xs) (same number x y all.0)
      ∙ ap (λ rest. make number y ++ rest) (same_each make same (number + 1) xs ys all.1)

-- and so is what two functions make alike of the same
pub each_same : {X Y : Type 0} (make other : ℕ → X → List Y) → ((number : ℕ) (item : X) → make number item ≡ other number item)
    → (number : ℕ) (items : List X) → each_from number make items ≡ each_from number other items
unfolding each_from
each_same make other same number [] = refl
each_same make other same number (item ∷ items) =
    ap (λ front. front ++ each_from (number + 1) make items) (same number item)
    ∙ ap (λ rest. other number item ++ rest) (each_same make other same (number + 1) items)

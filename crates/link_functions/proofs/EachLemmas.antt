-- What a function makes of items and their numbers, before one of them, of it and behind it.
use Rattle.std.proofs.Common.{◌≡◌, ℕ, zero, suc, ◌+◌, ◌<◌, List, [], ◌∷◌, ◌++◌, length, take, drop, Some, refl, sym, ap, ◌∙◌, arith, append_assoc, append-nil, add-one}
use Rattle.std.specs.Prelude.{slice_get}
use Rattle.std.proofs.lemmas.List.{take-append-drop, length-take-le}
use Rattle.link_names.specs.Definitions.{each, each_from}

got_take : {X : Type 0} (items : List X) (number : ℕ) (item : X) → slice_get items number ≡ Some item
    → (take (suc number) items ≡ take number items ++ item ∷ []) × (number < length items)
got_take [] number item here = absurd cc
got_take (first ∷ items) zero item here = (cc, omega arith)
got_take (first ∷ items) (suc number) item here =
    let rest = got_take items number item here in
    (ap (λ others. first ∷ others) rest.0, omega (arith, rest.1))

module _ {X Y : Type 0} (make : ℕ → X → List Y) where
  each_append : (number : ℕ) (front back : List X)
      → each_from number make (front ++ back) ≡ each_from number make front ++ each_from (number + length front) make back
  unfolding each_from
  each_append number [] back = ap (λ n. each_from n make back) (omega arith)
  each_append number (item ∷ front) back =
      ap (λ rest. make number item ++ rest) (each_append (number + 1) front back)
      ∙ sym (append_assoc (make number item) (each_from (number + 1) make front) (each_from (number + 1 + length front) make back))
      ∙ ap (λ n. (make number item ++ each_from (number + 1) make front) ++ each_from n make back) (omega arith)

  each_one : (number : ℕ) (item : X) → each_from number make (item ∷ []) ≡ make number item
  unfolding each_from
  each_one number item = append-nil (make number item)

  pub each_none : each make [] ≡ []
  unfolding each_from
  each_none = refl

  module _ (items : List X) (number : ℕ) (item : X) (here : slice_get items number ≡ Some item) where
    pub each_more : each make (take (number + 1) items) ≡ each make (take number items) ++ make number item
    each_more =
        let told = got_take items number item here in
        let long : 0 + length (take number items) ≡ number = omega (arith, length-take-le number items (omega (arith, told.1))) in
        ap (λ n. each make (take n items)) (add-one number) ∙ ap (each make) told.0 ∙ each_append 0 (take number items) (item ∷ [])
        ∙ ap (λ more. each make (take number items) ++ more) (ap (λ n. each_from n make (item ∷ [])) long ∙ each_one number item)

    -- what is made of the items behind it
    abbrev pub rest : List Y
    rest = each_from (0 + length (take (number + 1) items)) make (drop (number + 1) items)

    pub each_split : each make items ≡ each make (take number items) ++ (make number item ++ rest)
    each_split =
        ap (each make) (sym (take-append-drop (number + 1) items)) ∙ each_append 0 (take (number + 1) items) (drop (number + 1) items)
        ∙ ap (λ front. front ++ rest) each_more ∙ append_assoc (each make (take number items)) (make number item) rest

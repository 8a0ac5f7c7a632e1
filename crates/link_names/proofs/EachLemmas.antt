-- What a function makes of items and their numbers, up to one of them.
use Rattle.std.proofs.Common.{◌≡◌, ℕ, zero, suc, ◌+◌, ◌<◌, List, [], ◌∷◌, ◌++◌, length, take, drop, Some, refl, sym, ap, ◌∙◌, subst, arith, append_assoc, append-nil, add-one}
use Rattle.std.specs.Prelude.{slice_get}
use Rattle.std.proofs.lemmas.List.{take-append-drop, length-take-le}
use Rattle.link_names.specs.Definitions.{Entry, each, each_from}
use Rattle.link_names.specs.Adding.{Adds, Breaks}
use Rattle.link_names.proofs.AddingLemmas.{adds_none, adds_more, breaks_later, breaks_front}

module _ {X Y : Type 0} (make : ℕ → X → List Y) where
  each_append : (number : ℕ) (front back : List X)
      → each_from number make (front ++ back) ≡ each_from number make front ++ each_from (number + length front) make back
  unfolding each_from
  each_append number [] back = ap (λ n. each_from n make back) (omega arith)
  each_append number (item ∷ front) back =
      ap (λ rest. make number item ++ rest) (each_append (number + 1) front back)
      ∙ sym (append_assoc (make number item) (each_from (number + 1) make front) (each_from (number + 1 + length front) make back))
      ∙ ap (λ n. (make number item ++ each_from (number + 1) make front) ++ each_from n make back) (omega arith)

  each_one : (number : ℕ) (item : X) → each_from number make (item ∷ []) ≡ make number item
  unfolding each_from
  each_one number item = append-nil (make number item)

got_take : {X : Type 0} (items : List X) (number : ℕ) (item : X) → slice_get items number ≡ Some item
    → (take (suc number) items ≡ take number items ++ item ∷ []) × (number < length items)
got_take [] number item here = absurd cc
got_take (first ∷ items) zero item here = (cc, omega arith)
got_take (first ∷ items) (suc number) item here =
    let rest = got_take items number item here in
    (ap (λ others. first ∷ others) rest.0, omega (arith, rest.1))

first_front : {Y : Type 0} (front back : List Y) (y : Y) → slice_get front 0 ≡ Some y → slice_get (front ++ back) 0 ≡ Some y
first_front [] back y here = absurd cc
first_front (first ∷ front) back y here = here

module _ {X Y : Type 0} (make : ℕ → X → List Y) (items : List X) where
  each_more : (number : ℕ) (item : X) → slice_get items number ≡ Some item
      → each make (take (number + 1) items) ≡ each make (take number items) ++ make number item
  each_more number item here =
      let told = got_take items number item here in
      let long : 0 + length (take number items) ≡ number = omega (arith, length-take-le number items (omega (arith, told.1))) in
      ap (λ n. each make (take n items)) (add-one number) ∙ ap (each make) told.0 ∙ each_append make 0 (take number items) (item ∷ [])
      ∙ ap (λ more. each make (take number items) ++ more) (ap (λ n. each_from n make (item ∷ [])) long ∙ each_one make number item)

  -- nothing is made up to a number
  abbrev pub NoneMade : ℕ → Type 0
  NoneMade number = each make (take number items) ≡ []

  pub none_made : NoneMade 0
  unfolding each_from
  none_made = refl

  pub none_more : (number : ℕ) (item : X) → slice_get items number ≡ Some item → NoneMade number → make number item ≡ [] → NoneMade (number + 1)
  none_more number item here none nothing = rw (each_more number item here, none, nothing) refl

  pub first_made : (number : ℕ) (item : X) (y : Y) → slice_get items number ≡ Some item → NoneMade number
      → slice_get (make number item) 0 ≡ Some y → slice_get (each make items) 0 ≡ Some y
  first_made number item y here none made =
      let so_far : slice_get (each make (take (number + 1) items)) 0 ≡ Some y = rw (each_more number item here, none) made in
      let whole : each make items
      ≡ each make (take (number + 1) items) ++ each_from (0 + length (take (number + 1) items)) make (drop (number + 1) items)
      = ap (each make) (sym (take-append-drop (number + 1) items)) ∙ each_append make 0 (take (number + 1) items) (drop (number + 1) items) in
      rw whole (first_front (each make (take (number + 1) items)) (each_from (0 + length (take (number + 1) items)) make (drop (number + 1) items)) y so_far)

module _ {X : Type 0} (make : ℕ → X → List Entry) (items : List X) (old : List Entry) where
  -- what is kept once the items below a number are added
  abbrev pub Added : ℕ → List Entry → Type 0
  Added number new = Adds old (each make (take number items)) new

  pub added_none : Added 0 old
  unfolding each_from
  added_none = adds_none old

  pub added_more : (number : ℕ) (item : X) (between new : List Entry) → slice_get items number ≡ Some item → Added number between
      → Adds between (make number item) new → Added (number + 1) new
  added_more number item between new here front one =
      subst (λ more. Adds old more new) (sym (each_more make items number item here))
      (adds_more old (each make (take number items)) between (make number item) new front one)

  pub broken : (number : ℕ) (item : X) (between : List Entry) (name : List ℕ) → slice_get items number ≡ Some item → Added number between
      → Breaks between (make number item) name → Breaks old (each make items) name
  broken number item between name here front one =
      let so_far : Breaks old (each make (take (number + 1) items)) name
      = subst (λ more. Breaks old more name) (sym (each_more make items number item here))
      (breaks_later old (each make (take number items)) between (make number item) name front one) in
      let whole : each make items
      ≡ each make (take (number + 1) items) ++ each_from (0 + length (take (number + 1) items)) make (drop (number + 1) items)
      = ap (each make) (sym (take-append-drop (number + 1) items)) ∙ each_append make 0 (take (number + 1) items) (drop (number + 1) items) in
      subst (λ more. Breaks old more name) (sym whole)
      (breaks_front old (each make (take (number + 1) items)) (each_from (0 + length (take (number + 1) items)) make (drop (number + 1) items)) name so_far)

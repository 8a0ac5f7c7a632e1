-- Items by their numbers: in what a function makes of all items, and in two lists side by side.
use Rattle.std.proofs.Common.{◌≡◌, ℕ, zero, suc, ◌+◌, List, [], ◌∷◌, ◌++◌, get_or, Option, Some, None, refl, ap, ◌∙◌, subst, arith}
use Rattle.std.specs.Prelude.{All, slice_get}
use Rattle.std.specs.List.{AllZip}
use Rattle.std.specs.Option.{option_map}
use Rattle.std.proofs.lemmas.List.Elements.{All-append, All-cons, All-get_or, All-nil}
use Rattle.std.proofs.lemmas.Option.{get_or_from_slice_get, slice_get-get_or, slice_get_within}
use Rattle.link_names.specs.Definitions.{each, each_from, numbered}

pub all_got : {X : Type 0} (P : X → Type 0) (xs : List X) (place : ℕ) (x : X) → All P xs → slice_get xs place ≡ Some x → P x
all_got P xs place x all here =
    subst P (get_or_from_slice_get xs place x x here) (All-get_or P xs place x (slice_get_within xs place x here) all)

pub all_from_got : {X : Type 0} (P : X → Type 0) (xs : List X) → ((place : ℕ) (x : X) → slice_get xs place ≡ Some x → P x) → All P xs
all_from_got P xs holds = λ place d within. holds place (get_or xs place d) (slice_get-get_or xs place d within)

pub some_mapped : {A B : Type 0} (f : A → B) (found : Option A) (b : B) → option_map f found ≡ Some b → (a : A) × (found ≡ Some a) × (f a ≡ b)
some_mapped f None b is = absurd cc
some_mapped f (Some a) b is = (a, refl, cc)

got_front : {X : Type 0} (front back : List X) (place : ℕ) (x : X) → slice_get front place ≡ Some x → slice_get (front ++ back) place ≡ Some x
got_front [] back place x here = absurd cc
got_front (first ∷ front) back zero x here = here
got_front (first ∷ front) back (suc place) x here = got_front front back place x here

got_behind : {X : Type 0} (front back : List X) (place : ℕ) (x : X) → slice_get back place ≡ Some x
    → (behind : ℕ) × (slice_get (front ++ back) behind ≡ Some x)
got_behind [] back place x here = (place, here)
got_behind (first ∷ front) back place x here = let rest = got_behind front back place x here in (suc rest.0, rest.1)

module _ {X Y : Type 0} (make : ℕ → X → List Y) where
  all_each_from : (P : Y → Type 0) (start : ℕ) (items : List X)
      → ((number : ℕ) (item : X) → slice_get items number ≡ Some item → All P (make (start + number) item)) → All P (each_from start make items)
  unfolding each_from
  all_each_from P start [] fine = All-nil P
  all_each_from P start (item ∷ items) fine =
      let begin : start + 0 ≡ start = omega arith in
      All-append P (make start item) (each_from (start + 1) make items)
      (subst (λ (n : ℕ). All P (make n item)) begin (fine zero item refl))
      (all_each_from P (start + 1) items (λ number other here.
      let next : start + suc number ≡ start + 1 + number = omega arith in
      subst (λ (n : ℕ). All P (make n other)) next (fine (suc number) other here)))

  -- what holds of all that is made of each item holds of all that is made
  pub all_each : (P : Y → Type 0) (items : List X)
      → ((number : ℕ) (item : X) → slice_get items number ≡ Some item → All P (make number item)) → All P (each make items)
  all_each P items fine = all_each_from P 0 items (λ number item here.
      let same : number ≡ 0 + number = omega arith in
      subst (λ (n : ℕ). All P (make n item)) same (fine number item here))

  got_each_from : (start : ℕ) (items : List X) (number : ℕ) (item : X) (place : ℕ) (y : Y) → slice_get items number ≡ Some item
      → slice_get (make (start + number) item) place ≡ Some y → (found : ℕ) × (slice_get (each_from start make items) found ≡ Some y)
  unfolding each_from
  got_each_from start [] number item place y here made = absurd cc
  got_each_from start (first ∷ items) zero item place y here made =
      let same : item ≡ first = cc in
      let begin : start + 0 ≡ start = omega arith in
      let own : slice_get (make start item) place ≡ Some y = subst (λ (n : ℕ). slice_get (make n item) place ≡ Some y) begin made in (
        place,
        got_front (make start first) (each_from (start + 1) make items) place y
            (subst (λ (one : X). slice_get (make start one) place ≡ Some y) same own),
      )
  got_each_from start (first ∷ items) (suc number) item place y here made =
      let next : start + suc number ≡ start + 1 + number = omega arith in
      let later = got_each_from (start + 1) items number item place y here
      (subst (λ (n : ℕ). slice_get (make n item) place ≡ Some y) next made) in
      got_behind (make start first) (each_from (start + 1) make items) later.0 y later.1

  -- what is made of an item is there
  pub got_each : (items : List X) (number : ℕ) (item : X) (place : ℕ) (y : Y) → slice_get items number ≡ Some item
      → slice_get (make number item) place ≡ Some y → (found : ℕ) × (slice_get (each make items) found ≡ Some y)
  got_each items number item place y here made =
      let same : number ≡ 0 + number = omega arith in
      got_each_from 0 items number item place y here (subst (λ (n : ℕ). slice_get (make n item) place ≡ Some y) same made)

module _ {X Y : Type 0} (make : ℕ → X → Y) where
  abbrev one : ℕ → X → List Y
  one number item = make number item ∷ []

  pub all_numbered : (P : Y → Type 0) (items : List X)
      → ((number : ℕ) (item : X) → slice_get items number ≡ Some item → P (make number item)) → All P (numbered make items)
  all_numbered P items fine =
      all_each one P items (λ number item here. All-cons P (make number item) [] (fine number item here) (All-nil P))

  numbered_from : (start : ℕ) (items : List X) (number : ℕ)
      → slice_get (each_from start one items) number ≡ option_map (make (start + number)) (slice_get items number)
  unfolding each_from
  numbered_from start [] number = refl
  numbered_from start (item ∷ items) zero =
      let begin : start ≡ start + 0 = omega arith in ap (λ (n : ℕ). Some (make n item)) begin
  numbered_from start (item ∷ items) (suc number) =
      let next : start + 1 + number ≡ start + suc number = omega arith in
      numbered_from (start + 1) items number ∙ ap (λ (n : ℕ). option_map (make n) (slice_get items number)) next

  -- what stands at a number is made of the item there
  pub numbered_got : (items : List X) (number : ℕ) → slice_get (numbered make items) number ≡ option_map (make number) (slice_get items number)
  numbered_got items number =
      let same : 0 + number ≡ number = omega arith in
      numbered_from 0 items number ∙ ap (λ (n : ℕ). option_map (make n) (slice_get items number)) same

module _ {A B : Type 0} (R : A → B → Type 0) where
  pub zip_right : (xs : List A) (ys : List B) (place : ℕ) (y : B) → AllZip R xs ys → slice_get ys place ≡ Some y
      → (x : A) × (slice_get xs place ≡ Some x) × R x y
  zip_right [] [] place y are here = absurd cc
  zip_right [] (b ∷ ys) place y are here = absurd are
  zip_right (a ∷ xs) [] place y are here = absurd are
  zip_right (a ∷ xs) (b ∷ ys) zero y are here = let same : b ≡ y = cc in (a, refl, subst (R a) same are.0)
  zip_right (a ∷ xs) (b ∷ ys) (suc place) y are here = zip_right xs ys place y are.1 here

  pub zip_left : (xs : List A) (ys : List B) (place : ℕ) (x : A) → AllZip R xs ys → slice_get xs place ≡ Some x
      → (y : B) × (slice_get ys place ≡ Some y) × R x y
  zip_left [] [] place x are here = absurd cc
  zip_left [] (b ∷ ys) place x are here = absurd are
  zip_left (a ∷ xs) [] place x are here = absurd are
  zip_left (a ∷ xs) (b ∷ ys) zero x are here = let same : a ≡ x = cc in (b, refl, subst (λ (one : A). R one b) same are.0)
  zip_left (a ∷ xs) (b ∷ ys) (suc place) x are here = zip_left xs ys place x are.1 here

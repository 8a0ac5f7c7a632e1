-- Lists by the numbers of their items.
use Rattle.std.proofs.Common.{◌≡◌, ℕ, zero, suc, ◌<◌, List, [], ◌∷◌, length, map, Some, refl, sym, ap, ◌∙◌, subst, arith}
use Rattle.std.specs.List.{AllZip, each_same, range_with_len, slice_get}
use Rattle.std.proofs.lemmas.List.{length-map}
use Rattle.std.proofs.lemmas.List.FromFn.{get_or-range_with_len}
use Rattle.std.proofs.lemmas.Option.{get_or_from_slice_get, slice_get-map}
use Rattle.link_build.proofs.PlaceLemmas.{some_mapped}

pub some_same : {X : Type 0} {x y : X} → Some x ≡ Some y → x ≡ y
some_same h = cc

module _ {X : Type 0} where
  -- a list of as many items as are known to be there for each number
  pub record Chosen (R : ℕ → X → Type 0) (count : ℕ) : Type 0 where
    pub items : List X
    pub as_many : length items ≡ count
    pub each : (number : ℕ) (x : X) → slice_get items number ≡ Some x → R number x

  one_more : (R : ℕ → X → Type 0) (x : X) (xs : List X) → R zero x
      → ((number : ℕ) (other : X) → slice_get xs number ≡ Some other → R (suc number) other)
      → (number : ℕ) (other : X) → slice_get (x ∷ xs) number ≡ Some other → R number other
  one_more R x xs first rest zero other here = subst (R zero) (some_same here) first
  one_more R x xs first rest (suc number) other here = rest number other here

  pub choose : (R : ℕ → X → Type 0) (count : ℕ) → ((number : ℕ) → number < count → (x : X) × R number x) → Chosen R count
  choose R zero there = record { items = []; as_many = refl; each = λ number x here. absurd cc }
  choose R (suc count) there =
      let first = there zero (omega arith) in
      let rest = choose (λ number x. R (suc number) x) count (λ number less. there (suc number) (omega (arith, less))) in
      record {
        items = first.0 ∷ rest.items;
        as_many = ap suc rest.as_many;
        each = one_more R first.0 rest.items first.1 rest.each;
      }

module _ {A B : Type 0} (R : A → B → Type 0) where
  pub zip_from_got : (xs : List A) (ys : List B) → length xs ≡ length ys
      → ((number : ℕ) (x : A) (y : B) → slice_get xs number ≡ Some x → slice_get ys number ≡ Some y → R x y) → AllZip R xs ys
  zip_from_got [] [] same each = tt
  zip_from_got [] (y ∷ ys) same each = absurd (omega (arith, same))
  zip_from_got (x ∷ xs) [] same each = absurd (omega (arith, same))
  zip_from_got (x ∷ xs) (y ∷ ys) same each =
      (each zero x y refl refl, zip_from_got xs ys (omega (arith, same)) (λ number one other here there. each (suc number) one other here there))

-- lists as long as one another, with what the items of each number have in common
pub same_mapped : {X Y Z : Type 0} (f : X → Z) (g : Y → Z) (xs : List X) (ys : List Y) → length xs ≡ length ys
    → ((number : ℕ) (x : X) (y : Y) → slice_get xs number ≡ Some x → slice_get ys number ≡ Some y → f x ≡ g y) → map f xs ≡ map g ys
same_mapped {X} {Y} {Z} f g xs ys same each =
    sym (each_same (map f xs) (map g ys)
    (zip_from_got (λ (one other : Z). other ≡ one) (map f xs) (map g ys) (length-map xs f ∙ same ∙ sym (length-map ys g))
    (λ number one other here there.
    let x = some_mapped f (slice_get xs number) one (sym (slice_get-map f xs number) ∙ here) in
    let y = some_mapped g (slice_get ys number) other (sym (slice_get-map g ys number) ∙ there) in
    sym y.2 ∙ sym (each number x.0 y.0 x.1 y.1) ∙ x.2)))

pub range_at : (count number n : ℕ) → slice_get (range_with_len 0 count) number ≡ Some n → number < count → n ≡ number
range_at count number n here less =
    omega (
      arith,
      get_or_from_slice_get (range_with_len 0 count) number n 0 here,
      get_or-range_with_len 0 count number 0 less,
    )

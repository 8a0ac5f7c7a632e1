-- What a function makes of items and their numbers, from one of them on.
use Rattle.std.proofs.Common.{◌≡◌, ℕ, ◌+◌, ◌<◌, ◌≤◌, List, [], ◌∷◌, ◌++◌, length, get_or, drop, sym, ap, ◌∙◌, append_assoc, append-nil}
use Rattle.std.specs.Prelude.{All}
use Rattle.std.proofs.lemmas.List.{at_drop_more, at_drop_all}
use Rattle.std.proofs.lemmas.List.Elements.{All-nil, All-cons, All-head, All-tail}
use Rattle.link_names.specs.Definitions.{each_from}

-- what holds of all of two lists holds of all of each
pub all_front : {X : Type 0} (P : X → Type 0) (front back : List X) → All P (front ++ back) → All P front
all_front P [] back all = All-nil P
all_front P (x ∷ front) back all =
    All-cons P x front (All-head P x (front ++ back) all) (all_front P front back (All-tail P x (front ++ back) all))

pub all_back : {X : Type 0} (P : X → Type 0) (front back : List X) → All P (front ++ back) → All P back
all_back P [] back all = all
all_back P (x ∷ front) back all = all_back P front back (All-tail P x (front ++ back) all)

module _ {X Y : Type 0} (make : ℕ → X → List Y) (items : List X) where
  -- what is made from an item on
  abbrev pub Rest : ℕ → List Y
  Rest number = each_from number make (drop number items)

  pub rest_more : (number : ℕ) (item : X) → number < length items → item ≡ get_or items number item
      → Rest number ≡ make number item ++ Rest (number + 1)
  unfolding each_from
  rest_more number item within read =
      at_drop_more (each_from number make) items number item within
      ∙ ap (λ x. make number x ++ each_from (number + 1) make (drop (number + 1) items)) (sym read)

  pub rest_all : (number : ℕ) → length items ≤ number → Rest number ≡ []
  unfolding each_from
  rest_all number past = at_drop_all (each_from number make) items number past

  -- what is appended, item by item
  pub pushed_more : (number : ℕ) (item : X) (before now all : List Y) → number < length items → item ≡ get_or items number item
      → before ++ Rest number ≡ all → now ≡ before ++ make number item → now ++ Rest (number + 1) ≡ all
  pushed_more number item before now all within read so_far pushed =
      ap (λ front. front ++ Rest (number + 1)) pushed
      ∙ append_assoc before (make number item) (Rest (number + 1))
      ∙ ap (λ rest. before ++ rest) (sym (rest_more number item within read))
      ∙ so_far

  pub pushed_all : (number : ℕ) (now all : List Y) → length items ≤ number → now ++ Rest number ≡ all → now ≡ all
  pushed_all number now all past so_far = sym (append-nil now) ∙ ap (λ rest. now ++ rest) (sym (rest_all number past)) ∙ so_far

-- Items of lists by their numbers, and lists side by side.
use Rattle.std.proofs.Common.{◌≡◌, ◌<◌, ◌≤◌, ◌+◌, ℕ, zero, suc, List, [], ◌∷◌, ◌++◌, map, length, take, Some, refl, ap, ◌∙◌, subst, arith}
use Rattle.std.specs.Prelude.{All}
use Rattle.std.specs.List.{AllZip, slice_get}
use Rattle.std.proofs.lemmas.List.Elements.{All-append, All-head, All-nil, All-tail, All-weaker}
use Rattle.link_names.specs.Definitions.{each_from}
use Rattle.link_build.proofs.PlaceLemmas.{all_from_got, all_got}
use Rattle.unit_listing.specs.Joined.{AreJoined}
use Rattle.unit_listing.proofs.OneLemmas.{same_item}

-- below the length there is an item
pub there_is : {X : Type 0} (items : List X) (number : ℕ) → number < length items → (item : X) × (slice_get items number ≡ Some item)
there_is [] number less = absurd (omega arith)
there_is (item ∷ items) zero less = (item, refl)
there_is (item ∷ items) (suc number) less = there_is items number (omega arith)

-- the first items have the same numbers among themselves
pub among_first : {X : Type 0} (items : List X) (count number : ℕ) (item : X) → number < count → slice_get items number ≡ Some item
    → slice_get (take count items) number ≡ Some item
among_first items zero number item less here = absurd (omega arith)
among_first [] (suc count) number item less here = absurd cc
among_first (first ∷ items) (suc count) zero item less here = here
among_first (first ∷ items) (suc count) (suc number) item less here = among_first items count number item (omega arith) here

-- what follows for each of the lists follows for what they make one behind the other
pub joined_by : {X : Type 0} (Is Other : ℕ → List X → Type 0) → ((number : ℕ) (list : List X) → Is number list → Other number list)
    → (count : ℕ) (list : List X) → AreJoined Is count list → AreJoined Other count list
joined_by Is Other follows zero list are = are
joined_by Is Other follows (suc number) list (before, last, are, is, whole) =
    (before, last, joined_by Is Other follows number before are, follows number last is, whole)

module _ {A B : Type 0} (R : A → B → Type 0) where
  pub zip_append : (items more : List A) (made others : List B) → AllZip R items made → AllZip R more others
      → AllZip R (items ++ more) (made ++ others)
  zip_append [] more [] others are those = those
  zip_append [] more (one ∷ made) others are those = absurd are
  zip_append (item ∷ items) more [] others are those = absurd are
  zip_append (item ∷ items) more (one ∷ made) others are those = (are.0, zip_append items more made others are.1 those)

  -- two lists with as many items, where items of one number belong together
  pub zip_from_got : (items : List A) (made : List B) → length made ≡ length items
      → ((number : ℕ) (item : A) (one : B) → slice_get items number ≡ Some item → slice_get made number ≡ Some one → R item one)
      → AllZip R items made
  zip_from_got [] [] as_many all = tt
  zip_from_got [] (one ∷ made) as_many all = absurd (omega arith)
  zip_from_got (item ∷ items) [] as_many all = absurd (omega arith)
  zip_from_got (item ∷ items) (one ∷ made) as_many all =
      (all 0 item one refl refl, zip_from_got items made (omega arith) (λ number x y here there. all (suc number) x y here there))

-- what a function makes of items that are alike is the same
pub map_alike : {X Y : Type 0} (R : X → X → Type 0) (make : X → Y) → ((one other : X) → R one other → make one ≡ make other)
    → (items others : List X) → AllZip R items others → map make items ≡ map make others
map_alike R make alike [] [] are = refl
map_alike R make alike [] (other ∷ others) are = absurd are
map_alike R make alike (item ∷ items) [] are = absurd are
map_alike R make alike (item ∷ items) (other ∷ others) are =
    ap (λ first. first ∷ map make items) (alike item other are.0)
    ∙ ap (λ rest. make other ∷ rest) (map_alike R make alike items others are.1)

-- what is made of items that are alike stands side by side
pub zip_each : {X Y : Type 0} (make : ℕ → X → List Y) (R : X → X → Type 0) (S : Y → Y → Type 0)
    → ((number : ℕ) (one other : X) → R one other → AllZip S (make number one) (make number other))
    → (start : ℕ) (items others : List X) → AllZip R items others → AllZip S (each_from start make items) (each_from start make others)
unfolding each_from
zip_each make R S alike start [] [] are = tt
zip_each make R S alike start [] (other ∷ others) are = absurd are
zip_each make R S alike start (item ∷ items) [] are = absurd are
zip_each make R S alike start (item ∷ items) (other ∷ others) are =
    zip_append S (make start item) (each_from (start + 1) make items) (make start other) (each_from (start + 1) make others)
    (alike start item other are.0) (zip_each make R S alike (start + 1) items others are.1)

-- it holds of each item and each later one
abbrev pub ArePairs : {X : Type 0} → (X → X → Type 0) → List X → Type 0
ArePairs {X} R items =
    (number later : ℕ) (one other : X) → number < later → slice_get items number ≡ Some one → slice_get items later ≡ Some other → R one other

module _ {X : Type 0} (R : X → X → Type 0) where
  pairs_append : (front back : List X) → ArePairs R front → ArePairs R back → All (λ one. All (R one) back) front → ArePairs R (front ++ back)
  pairs_append [] back pairs rest between number later one other less here there = rest number later one other less here there
  pairs_append (item ∷ front) back pairs rest between number zero one other less here there = absurd (omega arith)
  pairs_append (item ∷ front) back pairs rest between zero (suc later) one other less here there =
      let same : item ≡ one = same_item here in
      let own : All (R item) front = all_from_got (R item) front (λ place x at. pairs 0 (suc place) item x (omega arith) refl at) in
      let all = All-append (R item) front back own (All-head (λ first. All (R first) back) item front between) in
      subst (λ first. R first other) same (all_got (R item) (front ++ back) later other all there)
  pairs_append (item ∷ front) back pairs rest between (suc number) (suc later) one other less here there =
      pairs_append front back (λ i j x y below at next. pairs (suc i) (suc j) x y (omega arith) at next) rest
      (All-tail (λ first. All (R first) back) item front between) number later one other (omega arith) here there

-- where what is made of an item has a tag, the item's number, and holds of two things with rising tags
module _ {X Y : Type 0} (make : ℕ → X → List Y) (tag : Y → ℕ) (tagged : (number : ℕ) (item : X) → All (λ y. tag y ≡ number) (make number item)) where
  tags_from : (start : ℕ) (items : List X) → All (λ y. start ≤ tag y) (each_from start make items)
  unfolding each_from
  tags_from start [] = All-nil (λ y. start ≤ tag y)
  tags_from start (item ∷ items) =
      All-append (λ y. start ≤ tag y) (make start item) (each_from (start + 1) make items)
      (All-weaker (λ y. tag y ≡ start) (λ y. start ≤ tag y) (λ y is. omega arith) (make start item) (tagged start item))
      (All-weaker (λ y. start + 1 ≤ tag y) (λ y. start ≤ tag y) (λ y is. omega arith) (each_from (start + 1) make items)
      (tags_from (start + 1) items))

  pub pairs_each : (R : Y → Y → Type 0) → ((one other : Y) → tag one < tag other → R one other) → (start : ℕ) (items : List X)
      → All (λ item. (number : ℕ) → ArePairs R (make number item)) items → ArePairs R (each_from start make items)
  unfolding each_from
  pairs_each R apart start [] pairs number later one other less here there = absurd cc
  pairs_each R apart start (item ∷ items) pairs number later one other less here there =
      let rest = each_from (start + 1) make items in
      pairs_append R (make start item) rest
      (All-head (λ item. (number : ℕ) → ArePairs R (make number item)) item items pairs start)
      (pairs_each R apart (start + 1) items (All-tail (λ item. (number : ℕ) → ArePairs R (make number item)) item items pairs))
      (All-weaker (λ y. tag y ≡ start) (λ y. All (R y) rest)
      (λ y is. All-weaker (λ z. start + 1 ≤ tag z) (R y) (λ z more. apart y z (omega arith)) rest (tags_from (start + 1) items))
      (make start item) (tagged start item))
      number later one other less here there

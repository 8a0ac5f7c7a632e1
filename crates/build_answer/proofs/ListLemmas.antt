-- Lists side by side, and what a function makes of their items.
use Rattle.std.proofs.Common.{◌≡◌, ℕ, ◌+◌, List, [], ◌∷◌, ◌++◌, Some, refl, sym, ap, ◌∙◌}
use Rattle.std.specs.Prelude.{All}
use Rattle.std.specs.List.{AllZip, slice_get}
use Rattle.std.proofs.lemmas.List.Elements.{All-head, All-tail}
use Rattle.link_names.specs.Definitions.{each, each_from}
use Rattle.unit_listing.proofs.OneLemmas.{same_item}

-- two functions that make the same of each item make the same of all
pub each_same : {X Y : Type 0} (make other : ℕ → X → List Y) → ((number : ℕ) (item : X) → make number item ≡ other number item)
    → (items : List X) → each make items ≡ each other items
each_same make other same items =
    let all : make ≡ other = λ i number item. same number item i in
    ap (λ made. each made items) all

-- of items that are alike the same is made
pub each_alike : {X Y : Type 0} (make : ℕ → X → List Y) (IsSame : X → X → Type 0)
    → ((number : ℕ) (one other : X) → IsSame one other → make number one ≡ make number other)
    → (start : ℕ) (items others : List X) → AllZip IsSame items others → each_from start make items ≡ each_from start make others
unfolding each_from
each_alike make IsSame alike start [] [] are = refl
each_alike make IsSame alike start [] (other ∷ others) are = absurd are
each_alike make IsSame alike start (item ∷ items) [] are = absurd are
each_alike make IsSame alike start (item ∷ items) (other ∷ others) are =
    ap (λ first. first ++ each_from (start + 1) make items) (alike start item other are.0)
    ∙ ap (λ rest. make start other ++ rest) (each_alike make IsSame alike (start + 1) items others are.1)

-- two lists that stand beside the same items stand beside one another
pub zip_both : {A B : Type 0} (IsOf : A → B → Type 0) (IsSame : B → B → Type 0)
    → ((item : A) (one other : B) → IsOf item one → IsOf item other → IsSame one other)
    → (items : List A) (made others : List B) → AllZip IsOf items made → AllZip IsOf items others → AllZip IsSame made others
zip_both IsOf IsSame same [] [] [] are those = tt
zip_both IsOf IsSame same [] [] (other ∷ others) are those = absurd those
zip_both IsOf IsSame same [] (one ∷ made) others are those = absurd are
zip_both IsOf IsSame same (item ∷ items) [] others are those = absurd are
zip_both IsOf IsSame same (item ∷ items) (one ∷ made) [] are those = absurd those
zip_both IsOf IsSame same (item ∷ items) (one ∷ made) (other ∷ others) are those =
    (same item one other are.0 those.0, zip_both IsOf IsSame same items made others are.1 those.1)

pub zip_weaker : {A B : Type 0} (IsOf IsBy : A → B → Type 0) → ((item : A) (one : B) → IsOf item one → IsBy item one)
    → (items : List A) (made : List B) → AllZip IsOf items made → AllZip IsBy items made
zip_weaker IsOf IsBy weaker [] [] are = tt
zip_weaker IsOf IsBy weaker [] (one ∷ made) are = absurd are
zip_weaker IsOf IsBy weaker (item ∷ items) [] are = absurd are
zip_weaker IsOf IsBy weaker (item ∷ items) (one ∷ made) are = (weaker item one are.0, zip_weaker IsOf IsBy weaker items made are.1)

-- what holds of all items holds of one between others
pub all_between : {X : Type 0} (P : X → Type 0) (before : List X) (item : X) (behind : List X) → All P (before ++ item ∷ behind) → P item
all_between P [] item behind all = All-head P item behind all
all_between P (first ∷ before) item behind all =
    all_between P before item behind (All-tail P first (before ++ item ∷ behind) all)

-- two lists that are the same have one first item
pub same_first : {X : Type 0} (items others : List X) (x y : X) → items ≡ others → slice_get items 0 ≡ Some x → slice_get others 0 ≡ Some y
    → x ≡ y
same_first items others x y same here there = same_item (sym here ∙ ap (λ all. slice_get all 0) same ∙ there)

-- a list of nothing has no first item
pub none_first : {X : Type 0} (items : List X) (x : X) → items ≡ [] → slice_get items 0 ≡ Some x → ⊥
none_first [] x none here = cc
none_first (first ∷ items) x none here = cc

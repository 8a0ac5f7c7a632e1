-- Texts one behind the other.
use Rattle.std.proofs.Common.{◌≡◌, ℕ, suc, zero, ◌+◌, ◌<◌, List, [], ◌++◌, length, Some, Result, Ok, Err, refl, sym, ap, ◌∙◌, subst, inl, inr, arith, append_assoc, append-nil, add-one}
use Rattle.std.specs.List.{slice_get}
use Rattle.std.specs.Result.{IfErr, OnOk}
use Rattle.unit_listing.specs.Joined.{AreJoined, Appends, HasAt, HaveTexts, IsFirstRefused}

-- nothing was put behind it yet
pub none_joined : (Is : ℕ → List ℕ → Type 0) (before : List ℕ) → Appends (AreJoined Is 0) before before
none_joined Is before = ([], refl, sym (append-nil before))

-- one more
pub one_more : (Is : ℕ → List ℕ → Type 0) (number : ℕ) (before between after : List ℕ) → Appends (AreJoined Is number) before between
    → Appends (Is number) between after → Appends (AreJoined Is (number + 1)) before after
one_more Is number before between after (joined, are, there) (last, is, behind) =
    rw (add-one) (
      joined ++ last,
      (joined, last, are, is, refl),
      behind ∙ ap (λ text. text ++ last) there ∙ append_assoc before joined last,
    )

-- what follows from a fact follows where there is a value
pub on_ok : {X E : Type 0} {P Q : Type 0} (r : Result X E) → (P → Q) → OnOk r P → OnOk r Q
on_ok (Ok x) follows there = follows there
on_ok (Err e) follows none = tt

-- an item's text is one at its number
pub item_more : {X : Type 0} (Has : X → List ℕ → Type 0) (items : List X) (number : ℕ) (item : X) (before after : List ℕ)
    → slice_get items number ≡ Some item → Appends (Has item) before after → Appends (HasAt Has items number) before after
item_more Has items number item before after here (text, is, behind) = (text, (item, here, is), behind)

-- what holds of each error holds of the error
pub on_err : {X E : Type 0} (P : E → Type 0) (r : Result X E) → ((e : E) → r ≡ Err e → P e) → IfErr r P
on_err P (Ok x) all = tt
on_err P (Err e) all = all e refl

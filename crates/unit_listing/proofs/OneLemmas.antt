-- Texts that are settled make one text, and one first refusal.
use Rattle.std.proofs.Common.{◌≡◌, ℕ, zero, suc, ◌+◌, ◌<◌, ◌≤◌, List, [], ◌++◌, length, Option, Some, refl, sym, ap, ◌∙◌, subst, inl, inr, arith}
use Rattle.std.specs.Prelude.{All}
use Rattle.std.specs.List.{slice_get}
use Rattle.std.proofs.lemmas.Bool.{cases_lt}
use Rattle.std.proofs.lemmas.Option.{slice_get_within}
use Rattle.unit_listing.specs.Joined.{AreJoined, HasAt, HaveTexts, IsFirstRefused}
use Rattle.unit_listing.proofs.PlacedLemmas.{of_item}

pub same_item : {X : Type 0} {x y : X} → Some x ≡ Some y → x ≡ y
same_item h = cc

pub one_joined : (Is : ℕ → List ℕ → Type 0) → ((number : ℕ) (text other : List ℕ) → Is number text → Is number other → text ≡ other)
    → (count : ℕ) (text other : List ℕ) → AreJoined Is count text → AreJoined Is count other → text ≡ other
one_joined Is one zero text other are are' = are ∙ sym are'
one_joined Is one (suc number) text other (before, last, are, is, whole) (before', last', are', is', whole') =
    let front = one_joined Is one number before before' are are' in
    let end = one number last last' is is' in
    whole ∙ ap (λ front. front ++ last) front ∙ ap (λ end. before' ++ end) end ∙ sym whole'

-- each of the numbers has a text
one_of : (Is : ℕ → List ℕ → Type 0) (count : ℕ) (text : List ℕ) → AreJoined Is count text → (number : ℕ) → number < count
    → (last : List ℕ) × Is number last
one_of Is zero text are number below = absurd (omega arith)
one_of Is (suc count) text (before, last, are, is, whole) number below = elim (cases_lt number count) [
  | inl less ↦ one_of Is count before are number less
  | inr least ↦
      let same : count ≡ number = omega arith in
      (last, subst (λ number. Is number last) same is)
]

module _ {X : Type 0} (Has : X → List ℕ → Type 0) where
  pub one_at : ((item : X) (text other : List ℕ) → Has item text → Has item other → text ≡ other) → (items : List X) (number : ℕ)
      (text other : List ℕ) → HasAt Has items number text → HasAt Has items number other → text ≡ other
  one_at one items number text other (item, here, has) (item', here', has') =
      let same : item' ≡ item = same_item (sym here' ∙ here) in
      one item text other has (subst (λ item. Has item other) same has')

  pub one_text : ((item : X) (text other : List ℕ) → Has item text → Has item other → text ≡ other) → (items : List X)
      (text other : List ℕ) → HaveTexts Has items text → HaveTexts Has items other → text ≡ other
  one_text one items text other = one_joined (HasAt Has items) (one_at one items) (length items) text other

  module _ {No : Type 0} (IsRefused : X → No → Type 0) (Valid : X → Type 0)
      (never : (item : X) (text : List ℕ) (refusal : No) → Valid item → Has item text → IsRefused item refusal → ⊥) where
    -- an item that is refused has no text
    none_at : (items : List X) (refusal : No) → All Valid items → (first : IsFirstRefused Has IsRefused items refusal) → (text : List ℕ)
        → HasAt Has items first.number text → ⊥
    none_at items refusal valid first text (item, here, has) =
        let same : item ≡ first.item = same_item (sym here ∙ first.here) in
        never first.item text refusal (of_item Valid items first.number first.item valid first.here)
        (subst (λ item. Has item text) same has) first.refused

    pub never_text : (items : List X) (text : List ℕ) (refusal : No) → All Valid items → HaveTexts Has items text
        → IsFirstRefused Has IsRefused items refusal → ⊥
    never_text items text refusal valid have first =
        let found = one_of (HasAt Has items) (length items) text have first.number (slice_get_within items first.number first.item first.here) in
        none_at items refusal valid first found.0 found.1

    -- the first isn't behind another one
    not_behind : (items : List X) (refusal other : No) → All Valid items → (one : IsFirstRefused Has IsRefused items refusal)
        → (two : IsFirstRefused Has IsRefused items other) → two.number ≤ one.number
    not_behind items refusal other valid one two = elim (cases_lt one.number two.number) [
      | inl less ↦
          let found = one_of (HasAt Has items) two.number two.before.0 two.before.1 one.number less in
          absurd (none_at items refusal valid one found.0 found.1)
      | inr least ↦ least
    ]

    pub one_first : ((item : X) (refusal other : No) → Valid item → IsRefused item refusal → IsRefused item other → refusal ≡ other)
        → (items : List X) (refusal other : No) → All Valid items → IsFirstRefused Has IsRefused items refusal
        → IsFirstRefused Has IsRefused items other → refusal ≡ other
    one_first single items refusal other valid one two =
        let a = not_behind items refusal other valid one two in
        let b = not_behind items other refusal valid two one in
        let number : two.number ≡ one.number = omega arith in
        let same : two.item ≡ one.item = same_item (sym two.here ∙ ap (slice_get items) number ∙ one.here) in
        single one.item refusal other (of_item Valid items one.number one.item valid one.here) one.refused
        (subst (λ item. IsRefused item other) same two.refused)

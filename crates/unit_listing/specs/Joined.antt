-- Lists, as texts, that stand one behind the other, and the first thing that has none.
use Rattle.std.specs.Prelude.{◌≡◌, ℕ, zero, suc, ◌<◌, List, [], ◌++◌, length, Some}
use Rattle.std.specs.List.{slice_get}

-- the lists of the numbers below a count, one behind the other
abbrev pub AreJoined : {X : Type 0} → (ℕ → List X → Type 0) → ℕ → List X → Type 0
AreJoined Is zero text = text ≡ []
AreJoined {X} Is (suc number) text =
    (before : List X) × (last : List X) × AreJoined Is number before × Is number last × (text ≡ before ++ last)

-- such a text was put behind another
abbrev pub Appends : (List ℕ → Type 0) → List ℕ → List ℕ → Type 0
Appends Is before after = (more : List ℕ) × Is more × (after ≡ before ++ more)

module _ {X : Type 0} (Has : X → List ℕ → Type 0) where
  -- the item of this number has the text
  abbrev pub HasAt : List X → ℕ → List ℕ → Type 0
  HasAt items number text = (item : X) × (slice_get items number ≡ Some item) × Has item text

  -- the texts of all items, one behind the other
  abbrev pub HaveTexts : List X → List ℕ → Type 0
  HaveTexts items text = AreJoined (HasAt items) (length items) text

  -- the first item that is refused; those before it have texts
  pub record IsFirstRefused {No : Type 0} (IsRefused : X → No → Type 0) (items : List X) (refusal : No) : Type 0 where
    pub number : ℕ
    pub item : X
    pub here : slice_get items number ≡ Some item
    pub before : (text : List ℕ) × AreJoined (HasAt items) number text
    pub refused : IsRefused item refusal

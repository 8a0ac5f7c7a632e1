-- The ranges of a text are found by halves.
use Rattle.std.specs.Prelude.{◌≡◌, ℕ, Bool, true, false, List, [], ◌∷◌, ◌+◌, ◌-◌, ◌*◌, ◌/◌, ◌<◌, ◌≤◌, ◌==◌, ◌||◌, min, length, take, drop, slice_index, Some}
use Rattle.machine_dump.specs.declared.search.Window.{Window}
use Rattle.machine_dump.specs.Lines.{is_newline, lines_of, is_ended}
use Rattle.machine_dump.specs.Digits.{hex_after}
use Rattle.machine_dump.specs.Form.{Range, end_of, range_of}

-- each line has a range, from this address on or above the one before it and apart from that
unfoldable pub Rises : ℕ → List (List ℕ) → Type 0
Rises least [] = Unit {0}
Rises least (text ∷ texts) =
    (range : Range) × (range_of text ≡ Some range) × (least ≤ range.first) × Rises (end_of range + 1) texts

-- the text behind the first four lines of a dump
pub record IsBody (body : List ℕ) : Type 0 where
  pub ended : is_ended body ≡ true
  pub rises : Rises 0 (lines_of body)

-- the address of the first line of a text, where it's a `mem` line
abbrev pub address_of : List ℕ → ℕ
address_of text = hex_after 0 (take 16 (drop 4 text))

-- whether a line begins at a place
abbrev pub is_start : List ℕ → ℕ → Bool
is_start body place = place == 0 || is_newline (slice_index body (place - 1))

-- no newline stands between two places
abbrev pub NoneWithin : List ℕ → ℕ → ℕ → Type 0
NoneWithin body low high = (place : ℕ) → low ≤ place → place < high → is_newline (slice_index body place) ≡ false

-- The line from `low` on doesn't begin above an address, and is known to go on up to `from`; the one from `high` on, if any, begins
-- above the address.
pub record IsWindow (body : List ℕ) (at : ℕ) (window : Window) : Type 0 where
  pub low_starts : is_start body window.low ≡ true
  pub low_address : address_of (drop window.low body) ≤ at
  pub line : NoneWithin body window.low window.from
  pub order : window.low ≤ window.from
  pub room : window.from < window.high
  pub most : window.high ≤ length body
  pub high_starts : is_newline (slice_index body (window.high - 1)) ≡ true
  pub high_address : window.high < length body → at < address_of (drop window.high body)

-- the place of a mark: equally far from one another, and none past the last byte
abbrev pub place_of : ℕ → ℕ → ℕ
place_of count index = min (index * (count / 4096 + 1)) (count - 1)

-- the line that begins at `start` has the place in it
pub record IsMark (body : List ℕ) (place start : ℕ) : Type 0 where
  pub order : start ≤ place
  pub starts : is_start body start ≡ true
  pub line : NoneWithin body start place

abbrev pub AreMarks : List ℕ → List ℕ → Type 0
AreMarks body starts = (index : ℕ) → index < 4096 → IsMark body (place_of (length body) index) (slice_index starts index)

-- a `mem` line that doesn't begin above an address
pub record IsLow (line : List ℕ) (at : ℕ) : Type 0 where
  pub range : Range
  pub is : range_of line ≡ Some range
  pub low : range.first ≤ at

-- A line of a text is found by halves.
use Rattle.std.proofs.Common.{◌≡◌, ℕ, zero, suc, Bool, true, false, inl, inr, ◌-◌, ◌<◌, ◌≤◌, ◌++◌, ◌==◌, List, [], ◌∷◌, length, take, drop, get_or, Some, refl, sym, ap, ◌∙◌, arith, length-drop}
use Rattle.std.proofs.lemmas.Bool.{cases_lt, cases_Bool, or_cases, eqb-true}
use Rattle.std.proofs.lemmas.List.{drop-take, take-take, drop_all, length-take-le}
use Rattle.machine_dump.specs.Lines.{is_newline, onto_line, lines_of, is_ended}
use Rattle.machine_dump.specs.Digits.{hex_after}
use Rattle.machine_dump.specs.Form.{Range, range_of}
use Rattle.machine_dump.specs.Search.{Rises, IsBody, address_of, is_start}
use Rattle.machine_dump.proofs.LineLemmas.{NoneUpTo, first_line, ended_last, ended_drop}
use Rattle.machine_dump.proofs.FormLemmas.{line_is}
use Rattle.machine_dump.proofs.RangeLemmas.{rises_behind, BeginAbove}

-- The lines of a text that is cut behind a newline.
onto_append : (byte : ℕ) (one other : List (List ℕ)) → 0 < length one → onto_line byte (one ++ other) ≡ onto_line byte one ++ other
onto_append byte [] other some = absurd (omega (arith, some))
onto_append byte (text ∷ texts) other some = refl

onto_some : (byte : ℕ) (lines : List (List ℕ)) → 0 < length lines → 0 < length (onto_line byte lines)
onto_some byte [] some = absurd (omega (arith, some))
onto_some byte (text ∷ texts) some = omega arith

abbrev IsCut : List ℕ → ℕ → Type 0
IsCut bytes place =
    (lines_of bytes ≡ lines_of (take (suc place) bytes) ++ lines_of (drop (suc place) bytes))
    × (0 < length (lines_of (take (suc place) bytes)))

cut_more : (byte : ℕ) (ends : Bool) (bytes : List ℕ) (place : ℕ) → is_newline byte ≡ ends → IsCut bytes place
    → IsCut (byte ∷ bytes) (suc place)
unfolding lines_of
cut_more byte true bytes place is (same, some) = (rw (is, same) refl, rw is (omega arith))
cut_more byte false bytes place is (same, some) = (
  rw (is, same) (onto_append byte (lines_of (take (suc place) bytes)) (lines_of (drop (suc place) bytes)) some),
  rw is (onto_some byte (lines_of (take (suc place) bytes)) some),
)

cut_at : (bytes : List ℕ) (place : ℕ) → place < length bytes → is_newline (get_or bytes place 0) ≡ true → IsCut bytes place
unfolding lines_of
cut_at [] place inside here = absurd (omega (arith, inside))
cut_at (byte ∷ bytes) zero inside here = (rw here refl, rw here (omega arith))
cut_at (byte ∷ bytes) (suc place) inside here =
    cut_more byte (is_newline byte) bytes place refl (cut_at bytes place (omega (arith, inside)) here)

start_newline : (body : List ℕ) (place : ℕ) → is_start body (suc place) ≡ true → is_newline (get_or body place 0) ≡ true
start_newline body place starts =
    let before : suc place - 1 ≡ place = omega arith in
    elim (or_cases (suc place == 0) (is_newline (get_or body (suc place - 1) 0)) starts) [
      | inl zero_is ↦ absurd (omega (arith, eqb-true (suc place) 0 zero_is))
      | inr newline_is ↦ rw before at newline_is
    ]

pub start_lines : (body : List ℕ) (place : ℕ) → place < length body → is_start body place ≡ true
    → lines_of body ≡ lines_of (take place body) ++ lines_of (drop place body)
unfolding lines_of
start_lines body zero inside starts = refl
start_lines body (suc place) inside starts = (cut_at body place (omega (arith, inside)) (start_newline body place starts)).0

-- An ended text has a first line.
pub record HasLine (bytes : List ℕ) : Type 0 where
  pub size : ℕ
  pub inside : size < length bytes
  pub before : NoneUpTo bytes size
  pub here : is_newline (get_or bytes size 0) ≡ true

none_more : (byte : ℕ) (bytes : List ℕ) (size : ℕ) → is_newline byte ≡ false → NoneUpTo bytes size → NoneUpTo (byte ∷ bytes) (suc size)
none_more byte bytes size other before zero below = other
none_more byte bytes size other before (suc k) below = before k (omega (arith, below))

line_more : (byte : ℕ) (bytes : List ℕ) → is_newline byte ≡ false → HasLine bytes → HasLine (byte ∷ bytes)
line_more byte bytes other line = record {
  size = suc line.size;
  inside = omega (arith, line.inside);
  before = none_more byte bytes line.size other line.before;
  here = line.here;
}

line_zero : (byte : ℕ) (bytes : List ℕ) → is_newline byte ≡ true → HasLine (byte ∷ bytes)
line_zero byte bytes is = record { size = 0; inside = omega arith; before = λ k below. absurd (omega (arith, below)); here = is }

has_line : (bytes : List ℕ) → 0 < length bytes → is_ended bytes ≡ true → HasLine bytes
has_line [] some ended = absurd (omega (arith, some))
has_line (byte ∷ []) some ended = line_zero byte [] (sym (ended_last (byte ∷ []) some) ∙ ended)
has_line (byte ∷ next ∷ bytes) some ended =
    elim (cases_Bool (is_newline byte)) [
      | inl is ↦ line_zero byte (next ∷ bytes) is
      | inr other ↦
          line_more byte (next ∷ bytes) other
          (has_line (next ∷ bytes) (omega arith) (ended_drop (byte ∷ next ∷ bytes) 1 (omega arith) ∙ ended))
    ]

-- the range of the first of lines that rise
first_range : (text : List ℕ) (texts : List (List ℕ)) → Rises 0 (text ∷ texts) → (range : Range) × (range_of text ≡ Some range)
unfolding Rises
first_range text texts (range, is, low, rest) = (range, is)

-- the address of a line stands at the same place in the text
same_address : (bytes : List ℕ) (size : ℕ) → 20 ≤ size → take 16 (drop 4 (take size bytes)) ≡ take 16 (drop 4 bytes)
same_address bytes size room =
    sym (drop-take 4 16 (take size bytes)) ∙ ap (drop 4) (take-take 20 size bytes room) ∙ drop-take 4 16 bytes

-- the line that begins at a place of a body
pub record StartsLine (body : List ℕ) (place : ℕ) : Type 0 where
  pub line : HasLine (drop place body)
  pub range : Range
  pub is : range_of (take line.size (drop place body)) ≡ Some range
  pub size : 22 < line.size
  pub address : range.first ≡ address_of (drop place body)
  pub first : lines_of (drop place body) ≡ take line.size (drop place body) ∷ lines_of (drop (suc line.size) (drop place body))
  pub rises : Rises 0 (lines_of (take place body) ++ take line.size (drop place body) ∷ lines_of (drop (suc line.size) (drop place body)))

pub starts_line : (body : List ℕ) (place : ℕ) → IsBody body → place < length body → is_start body place ≡ true → StartsLine body place
starts_line body place is_body inside starts =
    let count : length (drop place body) ≡ length body - place = length-drop place body in
    let line = has_line (drop place body) (omega (arith, count, inside)) (ended_drop body place inside ∙ is_body.ended) in
    let first = first_line (drop place body) line.size line.inside line.before line.here in
    let rises = rw (start_lines body place inside starts, first) at is_body.rises in
    let range = first_range (take line.size (drop place body)) _ (rises_behind 0 (lines_of (take place body)) _ rises) in
    let form = line_is (take line.size (drop place body)) range.0 range.1 in
    let size : 22 < line.size = (let taken = length-take-le line.size (drop place body) (omega (arith, line.inside)) in omega (arith, form.size, taken)) in
    record {
      line = line;
      range = range.0;
      is = range.1;
      size = size;
      address = form.first_is ∙ ap (hex_after 0) (same_address (drop place body) line.size (omega (arith, size)));
      first = first;
      rises = rises;
    }

-- there's room for its address
pub roomy : (body : List ℕ) (place : ℕ) → IsBody body → place < length body → is_start body place ≡ true → 20 ≤ length (drop place body)
roomy body place is_body inside starts =
    let starting = starts_line body place is_body inside starts in
    omega (arith, starting.size, starting.line.inside)

no_line : lines_of [] ≡ []
unfolding lines_of
no_line = refl

-- the lines from a place on begin above what their address is above
pub begins_above : (body : List ℕ) (place at : ℕ) → IsBody body → place ≤ length body → is_start body place ≡ true
    → (place < length body → at < address_of (drop place body)) → BeginAbove at (lines_of (drop place body))
begins_above body place at is_body inside starts above text later next is range_is =
    elim (cases_lt place (length body)) [
      | inl more ↦
          let starting = starts_line body place is_body more starts in
          let same : take starting.line.size (drop place body) ≡ text = (let both = sym starting.first ∙ is in cc) in
          let range : starting.range ≡ next = (let both : Some starting.range ≡ Some next = sym starting.is ∙ ap range_of same ∙ range_is in cc) in
          omega (arith, above more, sym starting.address ∙ ap (λ r. r.first) range)
      | inr all ↦
          let none : lines_of (drop place body) ≡ [] = ap lines_of (drop_all place body all) ∙ no_line in
          (let wrong = sym none ∙ is in cc)
    ]

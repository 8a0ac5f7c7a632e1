-- A part of a text in which a line is looked for, and the line that it ends with.
use Rattle.std.proofs.Common.{◌≡◌, ℕ, suc, Bool, true, false, inl, inr, ◌+◌, ◌-◌, ◌<◌, ◌≤◌, ◌++◌, ◌||◌, ◌==◌, List, [], ◌∷◌, length, take, drop, get_or, refl, sym, ap, ◌∙◌, arith, length-drop}
use Rattle.std.proofs.lemmas.Bool.{cases_lt, both_ways, false_from_ne_true}
use Rattle.std.proofs.lemmas.List.{get_or-drop, get_or-take, drop-drop, length-take-le}
use Rattle.memchr.specs.Find.{Nowhere, NoneAfter, Passes, is_byte}
use Rattle.machine_dump.specs.declared.search.Window.{Window}
use Rattle.machine_dump.specs.Lines.{is_newline, lines_of}
use Rattle.machine_dump.specs.Form.{range_of}
use Rattle.machine_dump.specs.Contents.{ranges_in, byte_in, word_in}
use Rattle.machine_dump.specs.Search.{IsBody, address_of, is_start, NoneWithin, IsWindow, IsLow}
use Rattle.machine_dump.proofs.RangeLemmas.{BeginAbove, word_of_line}
use Rattle.machine_dump.proofs.SearchLemmas.{StartsLine, starts_line, start_lines, begins_above}

or_right : (a b : Bool) → b ≡ true → (a || b) ≡ true
or_right true b is = refl
or_right false b is = is

-- a line begins behind a newline
pub starts_behind : (body : List ℕ) (place : ℕ) → is_newline (get_or body (place - 1) 0) ≡ true → is_start body place ≡ true
starts_behind body place is = or_right (place == 0) (is_newline (get_or body (place - 1) 0)) is

-- Bytes in a part of a text.
seen : (body : List ℕ) (from n k : ℕ) → k < n → get_or (take n (drop from body)) k 0 ≡ get_or body (from + k) 0
seen body from n k inside = get_or-take n (drop from body) k 0 inside ∙ get_or-drop from body k 0

pub none_within : (body : List ℕ) (from n low : ℕ) → Nowhere (Passes (is_byte 10) (take n (drop from body))) low n
    → NoneWithin body (from + low) (from + n)
none_within body from n low none place above below =
    let index : from + (place - from) ≡ place = omega (arith, above) in
    let here : get_or (take n (drop from body)) (place - from) 0 ≡ get_or body place 0
    = seen body from n (place - from) (omega (arith, above, below)) ∙ ap (λ k. get_or body k 0) index in
    ap is_newline (sym here)
    ∙ false_from_ne_true (is_newline (get_or (take n (drop from body)) (place - from) 0)) (none (place - from) (omega (arith, above)) (omega (arith, above, below)))

pub newline_within : (body : List ℕ) (from n place : ℕ) → place < n → Passes (is_byte 10) (take n (drop from body)) place
    → is_newline (get_or body (from + place) 0) ≡ true
newline_within body from n place inside here = ap is_newline (sym (seen body from n place inside)) ∙ here

-- what a search for the last newline of a part finds
pub look_some : (body : List ℕ) (from n place : ℕ) → from + n ≤ length body
    → NoneAfter (Passes (is_byte 10) (take n (drop from body))) 0 (length (take n (drop from body))) place
    → Passes (is_byte 10) (take n (drop from body)) place
    → (place < n) × (is_newline (get_or body (from + place) 0) ≡ true) × NoneWithin body (from + place + 1) (from + n)
look_some body from n place room found here =
    let count : length (take n (drop from body)) ≡ n = length-take-le n (drop from body) (omega (arith, room, length-drop from body)) in
    let inside : place < n = omega (arith, count, found.high) in
    let after : Nowhere (Passes (is_byte 10) (take n (drop from body))) (place + 1) n
    = λ k above below. found.after k above (omega (arith, count, below)) in (
      inside,
      newline_within body from n place inside here,
      λ k above. none_within body from n (place + 1) after k (omega (arith, above)),
    )

pub look_none : (body : List ℕ) (from n : ℕ) → from + n ≤ length body
    → Nowhere (Passes (is_byte 10) (take n (drop from body))) 0 (length (take n (drop from body))) → NoneWithin body from (from + n)
look_none body from n room none =
    let count : length (take n (drop from body)) ≡ n = length-take-le n (drop from body) (omega (arith, room, length-drop from body)) in
    let nowhere : Nowhere (Passes (is_byte 10) (take n (drop from body))) 0 n
    = λ k above below. none k above (omega (arith, count, below)) in
    λ k above. none_within body from n 0 nowhere k (omega (arith, above))

-- The three parts that a look at the middle leaves.
module _ (body : List ℕ) (at : ℕ) (window : Window) (is : IsWindow body at window) where
  pub without_newline : (from : ℕ) → window.from ≤ from → from < window.high → NoneWithin body window.from from
      → IsWindow body at (record { low = window.low; from = from; high = window.high })
  without_newline from more inside none = record {
    low_starts = is.low_starts;
    low_address = is.low_address;
    line = λ place above below. elim (cases_lt place window.from) [
      | inl known ↦ is.line place above known
      | inr later ↦ none place later below
    ];
    order = omega (arith, more, is.order);
    room = inside;
    most = is.most;
    high_starts = is.high_starts;
    high_address = is.high_address;
  }

  pub above_newline : (start from : ℕ) → start ≤ from → from < window.high → is_newline (get_or body (start - 1) 0) ≡ true
      → address_of (drop start body) ≤ at → NoneWithin body start from
      → IsWindow body at (record { low = start; from = from; high = window.high })
  above_newline start from more inside newline_is low none = record {
    low_starts = starts_behind body start newline_is;
    low_address = low;
    line = none;
    order = more;
    room = inside;
    most = is.most;
    high_starts = is.high_starts;
    high_address = is.high_address;
  }

  pub below_newline : (start : ℕ) → window.from < start → start < window.high → is_newline (get_or body (start - 1) 0) ≡ true
      → at < address_of (drop start body)
      → IsWindow body at (record { low = window.low; from = window.from; high = start })
  below_newline start more inside newline_is high = record {
    low_starts = is.low_starts;
    low_address = is.low_address;
    line = is.line;
    order = is.order;
    room = more;
    most = omega (arith, inside, is.most);
    high_starts = newline_is;
    high_address = λ within. high;
  }

  -- a part that is one line
  module _ (is_body : IsBody body) (narrow : window.high ≤ window.from + 1) where
    low_inside : window.low < length body
    low_inside = omega (arith, is.order, is.room, is.most)

    starting : StartsLine body window.low
    starting = starts_line body window.low is_body low_inside is.low_starts

    size_is : starting.line.size ≡ window.high - 1 - window.low
    size_is =
        elim (cases_lt starting.line.size (window.high - 1 - window.low)) [
          | inl less ↦
              let here : is_newline (get_or body (window.low + starting.line.size) 0) ≡ true
              = ap is_newline (sym (get_or-drop window.low body starting.line.size 0)) ∙ starting.line.here in
              absurd (both_ways _ (is.line (window.low + starting.line.size) (omega arith) (omega (arith, less, narrow, is.room))) here)
          | inr most ↦
              elim (cases_lt (window.high - 1 - window.low) starting.line.size) [
                | inl more ↦
                    let last : window.low + (window.high - 1 - window.low) ≡ window.high - 1 = omega (arith, is.order, is.room) in
                    let other : is_newline (get_or body (window.high - 1) 0) ≡ false
                    = ap is_newline (sym (get_or-drop window.low body (window.high - 1 - window.low) 0 ∙ ap (λ k. get_or body k 0) last))
                    ∙ starting.line.before (window.high - 1 - window.low) more in
                    absurd (both_ways _ other is.high_starts)
                | inr least ↦ omega (arith, most, least)
              ]
        ]

    rest_is : drop (suc starting.line.size) (drop window.low body) ≡ drop window.high body
    rest_is =
        let sum : window.low + suc starting.line.size ≡ window.high = omega (arith, size_is, is.order, is.room) in
        drop-drop (suc starting.line.size) window.low body ∙ ap (λ k. drop k body) sum

    above : BeginAbove at (lines_of (drop (suc starting.line.size) (drop window.low body)))
    above =
        rw rest_is
        (begins_above body window.high at is_body is.most (starts_behind body window.high is.high_starts) is.high_address)

    -- the line
    abbrev text : List ℕ
    text = take (window.high - 1 - window.low) (drop window.low body)

    text_is : take starting.line.size (drop window.low body) ≡ text
    text_is = ap (λ k. take k (drop window.low body)) size_is

    pub found_line : IsLow text at
    found_line = record {
      range = starting.range;
      is = ap range_of (sym text_is) ∙ starting.is;
      low = omega (arith, starting.address, is.low_address);
    }

    pub found_word : word_in (byte_in (ranges_in (lines_of body))) at ≡ word_in (byte_in (ranges_in (text ∷ []))) at
    found_word =
        let lines = start_lines body window.low low_inside is.low_starts ∙ ap (λ texts. lines_of (take window.low body) ++ texts) starting.first in
        ap (λ texts. word_in (byte_in (ranges_in texts)) at) lines
        ∙ word_of_line 0 at (lines_of (take window.low body)) (take starting.line.size (drop window.low body))
        (lines_of (drop (suc starting.line.size) (drop window.low body))) starting.range starting.is
        (omega (arith, starting.address, is.low_address)) starting.rises above
        ∙ ap (λ line. word_in (byte_in (ranges_in (line ∷ []))) at) text_is

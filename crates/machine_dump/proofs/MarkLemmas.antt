-- Marks lead to a part of the text in which a line is.
use Rattle.std.proofs.Common.{◌≡◌, ℕ, true, inl, inr, ◌+◌, ◌-◌, ◌*◌, ◌/◌, ◌<◌, ◌≤◌, ◌==◌, List, length, take, drop, get_or, set, replicate, ◌≢◌, refl, sym, ap, ◌∙◌, arith}
use Rattle.std.proofs.lemmas.Bool.{cases_lt, both_ways, or_cases, eqb-true}
use Rattle.std.proofs.lemmas.List.{get_or-set_other, get_or-set_same}
use Rattle.memchr.specs.Find.{Nowhere, NoneAfter, Passes, is_byte}
use Rattle.machine_dump.specs.Lines.{is_newline}
use Rattle.machine_dump.specs.Search.{IsBody, address_of, is_start, IsWindow, IsMark, AreMarks, place_of}
use Rattle.machine_dump.proofs.LineLemmas.{ended_last}
use Rattle.machine_dump.proofs.SearchLemmas.{roomy}
use Rattle.machine_dump.proofs.WindowLemmas.{starts_behind, look_some, look_none}

-- where a line begins that isn't the first one, a newline stands before it
behind_newline : (body : List ℕ) (start : ℕ) → is_start body start ≡ true → 0 < start → is_newline (get_or body (start - 1) 0) ≡ true
behind_newline body start starts some =
    elim (or_cases (start == 0) (is_newline (get_or body (start - 1) 0)) starts) [
      | inl none ↦ absurd (omega (arith, some, eqb-true start 0 none))
      | inr is ↦ is
    ]

pub first_place : (count : ℕ) → place_of count 0 ≡ 0
first_place count = grind arith

pub place_inside : (count number : ℕ) → 0 < count → place_of count number < count
place_inside count number some = omega (arith, some)

pub place_within : (count number : ℕ) → place_of count number ≤ count
place_within count number = omega arith

pub places_rise : (count number : ℕ) → place_of count number ≤ place_of count (number + 1)
places_rise count number =
    let more : number * (count / 4096 + 1) ≤ (number + 1) * (count / 4096 + 1) = grind arith in
    omega (arith, more)

-- the mark of the first place
pub mark_zero : (body : List ℕ) → IsMark body 0 0
mark_zero body = record { order = omega arith; starts = refl; line = λ k above below. absurd (omega (arith, below)) }

abbrev pub AreMarked : List ℕ → List ℕ → ℕ → Type 0
AreMarked body starts count = (number : ℕ) → number < count → IsMark body (place_of (length body) number) (get_or starts number 0)

pub marks_begin : (body : List ℕ) → AreMarked body (replicate 4096 0) 1
marks_begin body number first =
    let zero_is : number ≡ 0 = omega (arith, first) in
    rw (zero_is, first_place (length body)) (mark_zero body)

pub marks_more : (body starts : List ℕ) (count start : ℕ) → count < length starts → AreMarked body starts count
    → IsMark body (place_of (length body) count) start → AreMarked body (set starts count start) (count + 1)
marks_more body starts count start inside marks mark number below =
    elim (cases_lt number count) [
      | inl earlier ↦
          let other : number ≢ count = λ same. omega (arith, earlier, same) in
          rw (get_or-set_other starts count number start 0 other) (marks number earlier)
      | inr last ↦
          let same : number ≡ count = omega (arith, below, last) in
          rw (same, get_or-set_same starts count start 0 inside) mark
    ]

-- the mark of a place by that of an earlier one
pub mark_found : (body : List ℕ) (from to place : ℕ) → from ≤ to → to ≤ length body
    → NoneAfter (Passes (is_byte 10) (take (to - from) (drop from body))) 0 (length (take (to - from) (drop from body))) place
    → Passes (is_byte 10) (take (to - from) (drop from body)) place
    → IsMark body to (from + place + 1)
mark_found body from to place order inside found here =
    let sum : from + (to - from) ≡ to = omega (arith, order) in
    let look = look_some body from (to - from) place (omega (arith, order, inside)) found here in
    let last : from + place + 1 - 1 ≡ from + place = omega arith in
    record {
      order = omega (arith, look.0, order);
      starts = starts_behind body (from + place + 1) (ap (λ k. is_newline (get_or body k 0)) last ∙ look.1);
      line = λ k above below. look.2 k above (omega (arith, below, sum));
    }

pub mark_kept : (body : List ℕ) (start from to : ℕ) → IsMark body from start → from ≤ to → to ≤ length body
    → Nowhere (Passes (is_byte 10) (take (to - from) (drop from body))) 0 (length (take (to - from) (drop from body)))
    → IsMark body to start
mark_kept body start from to mark order inside none =
    let sum : from + (to - from) ≡ to = omega (arith, order) in
    let look = look_none body from (to - from) (omega (arith, order, inside)) none in
    record {
      order = omega (arith, mark.order, order);
      starts = mark.starts;
      line = λ k above below. elim (cases_lt k from) [
        | inl known ↦ mark.line k above known
        | inr later ↦ look k later (omega (arith, below, sum))
      ];
    }

-- a marked line lies in the text
module _ (body starts : List ℕ) (marks : AreMarks body starts) (some : 0 < length body) where
  pub mark_inside : (number : ℕ) → number < 4096 → get_or starts number 0 < length body
  mark_inside number few =
      let mark = marks number few in
      omega (arith, mark.order, place_inside (length body) number some)

  pub mark_roomy : (number : ℕ) → number < 4096 → IsBody body → 20 ≤ length (drop (get_or starts number 0) body)
  mark_roomy number few is_body = roomy body (get_or starts number 0) is_body (mark_inside number few) ((marks number few).starts)

  pub mark_first : (at : ℕ) → address_of body ≤ at → address_of (drop (get_or starts 0 0) body) ≤ at
  mark_first at low =
      let mark = marks 0 (omega arith) in
      let start : get_or starts 0 0 ≡ 0 = omega (arith, mark.order, first_place (length body)) in
      rw start low

  -- from the line of a place to that of the next one
  pub mark_window : (at number : ℕ) → number + 1 < 4096
      → address_of (drop (get_or starts number 0) body) ≤ at → at < address_of (drop (get_or starts (number + 1) 0) body)
      → IsWindow body at
      (record { low = get_or starts number 0; from = place_of (length body) number; high = get_or starts (number + 1) 0 })
  mark_window at number few low high =
      let mark = marks number (omega (arith, few)) in
      let next = marks (number + 1) few in
      let rise : place_of (length body) number ≤ place_of (length body) (number + 1) = places_rise (length body) number in
      let room : place_of (length body) number < get_or starts (number + 1) 0
      = elim (cases_lt (place_of (length body) number) (get_or starts (number + 1) 0)) [
        | inl above ↦ above
        | inr below ↦
            elim (cases_lt (get_or starts number 0) (get_or starts (number + 1) 0)) [
              | inl less ↦
                  absurd (both_ways _
                  (mark.line (get_or starts (number + 1) 0 - 1) (omega (arith, less)) (omega (arith, less, below)))
                  (behind_newline body (get_or starts (number + 1) 0) next.starts (omega (arith, less))))
              | inr more ↦
                  elim (cases_lt (get_or starts (number + 1) 0) (get_or starts number 0)) [
                    | inl less ↦
                        absurd (both_ways _
                        (next.line (get_or starts number 0 - 1) (omega (arith, less)) (omega (arith, less, mark.order, rise)))
                        (behind_newline body (get_or starts number 0) mark.starts (omega (arith, less))))
                    | inr least ↦
                        let same : get_or starts number 0 ≡ get_or starts (number + 1) 0 = omega (arith, more, least) in
                        let wrong : address_of (drop (get_or starts (number + 1) 0) body) ≤ at = rw same at low in
                        absurd (omega (arith, wrong, high))
                  ]
            ]
      ] in
      record {
        low_starts = mark.starts;
        low_address = low;
        line = mark.line;
        order = mark.order;
        room = room;
        most = omega (arith, mark_inside (number + 1) few);
        high_starts = behind_newline body (get_or starts (number + 1) 0) next.starts (omega (arith, room));
        high_address = λ within. high;
      }

  -- from the line of a place to the end
  pub last_window : (at number : ℕ) → number < 4096 → IsBody body → address_of (drop (get_or starts number 0) body) ≤ at
      → IsWindow body at (record { low = get_or starts number 0; from = place_of (length body) number; high = length body })
  last_window at number few is_body low =
      let mark = marks number few in
      record {
        low_starts = mark.starts;
        low_address = low;
        line = mark.line;
        order = mark.order;
        room = place_inside (length body) number some;
        most = omega arith;
        high_starts = sym (ended_last body some) ∙ is_body.ended;
        high_address = λ within. absurd (omega (arith, within));
      }

-- Ranges that rise, and the bytes that they have.
use Rattle.std.proofs.Common.{◌≡◌, ℕ, zero, suc, inl, inr, ◌+◌, ◌-◌, ◌<◌, ◌≤◌, ◌++◌, nat_le, nat_lt, List, [], ◌∷◌, length, take, drop, get_or, Option, Some, None, refl, sym, ap, ◌∙◌, arith}
use Rattle.std.specs.Option.{option_map}
use Rattle.std.proofs.lemmas.List.{drop_more}
use Rattle.machine_effect.specs.Memory.{number_of}
use Rattle.std.proofs.lemmas.Bool.{cases_lt, le-leb, lt-leb, lt-ltb, le-ltb, and_right}
use Rattle.machine_dump.specs.Form.{Range, end_of, range_of}
use Rattle.machine_dump.specs.Contents.{ranges_in, byte_in, bytes_from, word_in}
use Rattle.machine_dump.specs.Search.{Rises}

same_some : {A : Type 0} (x y : A) → Some x ≡ Some y → x ≡ y
same_some x y is = cc

-- the ranges of a line and those behind it
pub ranges_more : (text : List ℕ) (texts : List (List ℕ)) (range : Range) → range_of text ≡ Some range
    → ranges_in (text ∷ texts) ≡ range ∷ ranges_in texts
unfolding ranges_in
ranges_more text texts range is = rw is refl

-- the byte of a range, where it has one, and where it hasn't
pub byte_here : (range : Range) (ranges : List Range) (at : ℕ) → range.first ≤ at → at < end_of range
    → byte_in (range ∷ ranges) at ≡ Some (get_or range.bytes (at - range.first) 0)
unfolding byte_in
byte_here range ranges at low high = rw (le-leb range.first at low, lt-ltb at (end_of range) high) refl

pub byte_below : (range : Range) (ranges : List Range) (at : ℕ) → at < range.first
    → byte_in (range ∷ ranges) at ≡ byte_in ranges at
unfolding byte_in
byte_below range ranges at low = rw (lt-leb range.first at low) refl

pub byte_above : (range : Range) (ranges : List Range) (at : ℕ) → end_of range ≤ at
    → byte_in (range ∷ ranges) at ≡ byte_in ranges at
unfolding byte_in
byte_above range ranges at high =
    rw (and_right (nat_le range.first at) (nat_lt at (end_of range)) (le-ltb at (end_of range) high)) refl

pub byte_none : (at : ℕ) → byte_in [] at ≡ None
unfolding byte_in
byte_none at = refl

pub ranges_none : ranges_in [] ≡ []
unfolding ranges_in
ranges_none = refl

-- lines that rise from an address on rise from any below it
pub rises_lower : (more less : ℕ) (texts : List (List ℕ)) → less ≤ more → Rises more texts → Rises less texts
unfolding Rises
rises_lower more less [] lower rises = tt
rises_lower more less (text ∷ texts) lower (range, is, low, rest) = (range, is, omega (arith, low), rest)

-- the lines behind some others rise too
pub rises_behind : (least : ℕ) (before texts : List (List ℕ)) → Rises least (before ++ texts) → Rises least texts
unfolding Rises
rises_behind least [] texts rises = rises
rises_behind least (text ∷ before) texts (range, is, low, rest) =
    rises_lower (end_of range + 1) least texts (omega (arith, low)) (rises_behind (end_of range + 1) before texts rest)

pub rises_first : (least : ℕ) (text : List ℕ) (texts : List (List ℕ)) (range : Range) → range_of text ≡ Some range
    → Rises least (text ∷ texts) → (least ≤ range.first) × Rises (end_of range + 1) texts
unfolding Rises
rises_first least text texts range is (other, other_is, low, rest) =
    let same : other ≡ range = same_some other range (sym other_is ∙ is) in
    (rw same at low, rw same at rest)

-- no line has a byte below where they begin
pub none_below : (least at : ℕ) (texts : List (List ℕ)) → at < least → Rises least texts → byte_in (ranges_in texts) at ≡ None
unfolding Rises
none_below least at [] below rises = ap (λ ranges. byte_in ranges at) ranges_none ∙ byte_none at
none_below least at (text ∷ texts) below (range, is, low, rest) =
    ap (λ ranges. byte_in ranges at) (ranges_more text texts range is)
    ∙ byte_below range (ranges_in texts) at (omega (arith, below, low))
    ∙ none_below (end_of range + 1) at texts (omega (arith, below, low)) rest

-- from a range's first address on, what stands before it has no byte
pub byte_from : (least at : ℕ) (before : List (List ℕ)) (text : List ℕ) (texts : List (List ℕ)) (range : Range)
    → range_of text ≡ Some range → range.first ≤ at → Rises least (before ++ text ∷ texts)
    → byte_in (ranges_in (before ++ text ∷ texts)) at ≡ byte_in (range ∷ ranges_in texts) at
unfolding Rises
byte_from least at [] text texts range is low rises = ap (λ ranges. byte_in ranges at) (ranges_more text texts range is)
byte_from least at (other ∷ before) text texts range is low (other_range, other_is, other_low, rest) =
    let first = rises_first (end_of other_range + 1) text texts range is (rises_behind (end_of other_range + 1) before (text ∷ texts) rest) in
    ap (λ ranges. byte_in ranges at) (ranges_more other (before ++ text ∷ texts) other_range other_is)
    ∙ byte_above other_range (ranges_in (before ++ text ∷ texts)) at (omega (arith, low, first.0))
    ∙ byte_from (end_of other_range + 1) at before text texts range is low rest

-- lines whose first one begins above an address have no byte up to that
pub none_above : (least bound at : ℕ) (text : List ℕ) (texts : List (List ℕ)) → Rises least (text ∷ texts)
    → ((next : Range) → range_of text ≡ Some next → bound < next.first) → at ≤ bound
    → byte_in (ranges_in (text ∷ texts)) at ≡ None
unfolding Rises
none_above least bound at text texts (range, is, low, rest) above below =
    none_below (bound + 1) at (text ∷ texts) (omega (arith, below)) (range, is, omega (arith, above range is), rest)

-- the first of these lines, if there is one, begins above an address
abbrev pub BeginAbove : ℕ → List (List ℕ) → Type 0
BeginAbove bound texts =
    (text : List ℕ) (later : List (List ℕ)) (next : Range) → texts ≡ text ∷ later → range_of text ≡ Some next → bound < next.first

pub none_there : (least at : ℕ) (texts : List (List ℕ)) → Rises least texts → BeginAbove at texts
    → byte_in (ranges_in texts) at ≡ None
none_there least at [] rises above = ap (λ ranges. byte_in ranges at) ranges_none ∙ byte_none at
none_there least at (text ∷ texts) rises above =
    none_above least at at text texts rises (λ next is. above text texts next refl is) (omega arith)

-- two memories have the same bytes from an address on, up to one that both lack
pub same_bytes : (one other : ℕ → Option ℕ) (missing n at : ℕ) → one missing ≡ None → other missing ≡ None → at ≤ missing
    → ((k : ℕ) → at ≤ k → k < missing → one k ≡ other k) → bytes_from one at n ≡ bytes_from other at n
unfolding bytes_from
same_bytes one other missing zero at one_none other_none low same = refl
same_bytes one other missing (suc n) at one_none other_none low same =
    elim (cases_lt at missing) [
      | inl below ↦
          let rest : bytes_from one (at + 1) n ≡ bytes_from other (at + 1) n
          = same_bytes one other missing n (at + 1) one_none other_none (omega (arith, below)) (λ k from. same k (omega (arith, from))) in
          rw (same at (omega arith) below, rest) refl
      | inr above ↦
          let here : at ≡ missing = omega (arith, above, low) in
          rw (here, one_none, other_none) refl
    ]

-- the range of one line alone
pub one_range : (text : List ℕ) (range : Range) → range_of text ≡ Some range → ranges_in (text ∷ []) ≡ range ∷ []
one_range text range is = ranges_more text [] range is ∙ ap (λ ranges. range ∷ ranges) ranges_none

-- The word at an address is that of the last line that doesn't begin above it.
module _ (least at : ℕ) (before : List (List ℕ)) (text : List ℕ) (texts : List (List ℕ)) (range : Range) (is : range_of text ≡ Some range)
    (low : range.first ≤ at) (rises : Rises least (before ++ text ∷ texts)) (above : BeginAbove at texts) where
  behind : Rises (end_of range + 1) texts
  behind = (rises_first least text texts range is (rises_behind least before (text ∷ texts) rises)).1

  past : (k : ℕ) → at ≤ k → end_of range ≤ k → byte_in (ranges_in texts) k ≡ None
      → (byte_in (ranges_in (before ++ text ∷ texts)) k ≡ None) × (byte_in (ranges_in (text ∷ [])) k ≡ None)
  past k from high none = (
    byte_from least k before text texts range is (omega (arith, from, low)) rises ∙ byte_above range (ranges_in texts) k high ∙ none,
    ap (λ ranges. byte_in ranges k) (one_range text range is) ∙ byte_above range [] k high ∙ byte_none k,
  )

  within : (k : ℕ) → at ≤ k → k < end_of range
      → byte_in (ranges_in (before ++ text ∷ texts)) k ≡ byte_in (ranges_in (text ∷ [])) k
  within k from inside =
      byte_from least k before text texts range is (omega (arith, from, low)) rises
      ∙ byte_here range (ranges_in texts) k (omega (arith, from, low)) inside
      ∙ sym (ap (λ ranges. byte_in ranges k) (one_range text range is) ∙ byte_here range [] k (omega (arith, from, low)) inside)

  pub word_of_line : word_in (byte_in (ranges_in (before ++ text ∷ texts))) at ≡ word_in (byte_in (ranges_in (text ∷ []))) at
  word_of_line =
      elim (cases_lt at (end_of range)) [
        | inl inside ↦
            let end = past (end_of range) (omega (arith, inside)) (omega arith)
            (none_below (end_of range + 1) (end_of range) texts (omega arith) behind) in
            ap (option_map number_of)
            (same_bytes (byte_in (ranges_in (before ++ text ∷ texts))) (byte_in (ranges_in (text ∷ []))) (end_of range) 8 at end.0 end.1
            (omega (arith, inside)) within)
        | inr outside ↦
            let none = past at (omega arith) outside (none_there (end_of range + 1) at texts behind above) in
            ap (option_map number_of)
            (same_bytes (byte_in (ranges_in (before ++ text ∷ texts))) (byte_in (ranges_in (text ∷ []))) at 8 at none.0 none.1
            (omega arith) (λ k from below. absurd (omega (arith, from, below))))
      ]

-- bytes of one range, where it has them all, and where it lacks the last
byte_of_one : (range : Range) (index : ℕ) → index < length range.bytes
    → byte_in (range ∷ []) (range.first + index) ≡ Some (get_or range.bytes index 0)
byte_of_one range index inside =
    let same : range.first + index - range.first ≡ index = omega arith in
    byte_here range [] (range.first + index) (omega arith) (omega (arith, inside)) ∙ ap (λ k. Some (get_or range.bytes k 0)) same

pub has_bytes : (range : Range) (n index : ℕ) → index + n ≤ length range.bytes
    → bytes_from (byte_in (range ∷ [])) (range.first + index) n ≡ Some (take n (drop index range.bytes))
unfolding bytes_from
has_bytes range zero index inside = refl
has_bytes range (suc n) index inside =
    let next : range.first + index + 1 ≡ range.first + (index + 1) = omega arith in
    let rest : bytes_from (byte_in (range ∷ [])) (range.first + index + 1) n ≡ Some (take n (drop (index + 1) range.bytes))
    = ap (λ k. bytes_from (byte_in (range ∷ [])) k n) next ∙ has_bytes range n (index + 1) (omega (arith, inside)) in
    rw (byte_of_one range index (omega (arith, inside)), rest, drop_more range.bytes index 0 (omega (arith, inside))) refl

pub lacks_bytes : (range : Range) (n index : ℕ) → length range.bytes < index + n → 0 < n
    → bytes_from (byte_in (range ∷ [])) (range.first + index) n ≡ None
unfolding bytes_from
lacks_bytes range zero index past some = absurd (omega (arith, some))
lacks_bytes range (suc n) index past some =
    elim (cases_lt index (length range.bytes)) [
      | inl inside ↦
          let next : range.first + index + 1 ≡ range.first + (index + 1) = omega arith in
          let rest : bytes_from (byte_in (range ∷ [])) (range.first + index + 1) n ≡ None
          = ap (λ k. bytes_from (byte_in (range ∷ [])) k n) next
          ∙ lacks_bytes range n (index + 1) (omega (arith, past)) (omega (arith, past, inside)) in
          rw (byte_of_one range index inside, rest) refl
      | inr outside ↦
          let none : byte_in (range ∷ []) (range.first + index) ≡ None
          = byte_above range [] (range.first + index) (omega (arith, outside)) ∙ byte_none (range.first + index) in
          rw none refl
    ]

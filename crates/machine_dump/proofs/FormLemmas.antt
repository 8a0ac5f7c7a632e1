-- What a line has that has the form of a range, and the bytes that digits spell.
use Rattle.std.proofs.Common.{◌≡◌, ℕ, zero, suc, Bool, true, false, ◌+◌, ◌-◌, ◌*◌, ◌/◌, ◌%◌, ◌<◌, ◌&&◌, ◌==◌, nat_lt, List, [], ◌∷◌, length, take, drop, Option, Some, None, refl, sym, ap, ◌∙◌, arith, length-drop, if◌then◌else◌}
use Rattle.std.specs.Option.{option_map, option_and_then}
use Rattle.std.proofs.lemmas.Bool.{false≢true, and_parts, ltb-true, eqb-true}
use Rattle.std.proofs.lemmas.List.{drop-drop, drop-take}
use Rattle.machine_dump.specs.Digits.{digit_of, bytes_of, word_of, hex_after}
use Rattle.machine_dump.specs.Form.{Range, end_of, field_of, range_from, range_of}
use Rattle.machine_dump.specs.Read.{span_of}

-- two digits a byte
pub length_bytes : (glyphs : List ℕ) → length (bytes_of glyphs) ≡ length glyphs / 2
unfolding bytes_of
length_bytes [] = refl
length_bytes (glyph ∷ []) = refl
length_bytes (high ∷ low ∷ glyphs) = omega (arith, length_bytes glyphs)

dropped : (index : ℕ) (more : List ℕ) → ((rest : List ℕ) → drop index (bytes_of rest) ≡ bytes_of (drop (2 * index) rest))
    → drop (suc index) (bytes_of more) ≡ bytes_of (drop (suc (suc (2 * index))) more)
unfolding bytes_of
dropped index [] later = refl
dropped index (glyph ∷ []) later = refl
dropped index (high ∷ low ∷ rest) later = later rest

pub drop_bytes : (index : ℕ) (glyphs : List ℕ) → drop index (bytes_of glyphs) ≡ bytes_of (drop (2 * index) glyphs)
drop_bytes zero glyphs = refl
drop_bytes (suc index) glyphs =
    let twice : 2 * suc index ≡ suc (suc (2 * index)) = omega arith in
    rw twice (dropped index glyphs (drop_bytes index))

taken : (count : ℕ) (more : List ℕ) → ((rest : List ℕ) → take count (bytes_of rest) ≡ bytes_of (take (2 * count) rest))
    → take (suc count) (bytes_of more) ≡ bytes_of (take (suc (suc (2 * count))) more)
unfolding bytes_of
taken count [] later = refl
taken count (glyph ∷ []) later = refl
taken count (high ∷ low ∷ rest) later = ap (λ bytes. (16 * digit_of high + digit_of low) ∷ bytes) (later rest)

none_taken : bytes_of [] ≡ []
unfolding bytes_of
none_taken = refl

pub take_bytes : (count : ℕ) (glyphs : List ℕ) → take count (bytes_of glyphs) ≡ bytes_of (take (2 * count) glyphs)
take_bytes zero glyphs = sym none_taken
take_bytes (suc count) glyphs =
    let twice : 2 * suc count ≡ suc (suc (2 * count)) = omega arith in
    rw twice (taken count glyphs (take_bytes count))

and_then_some : {A B : Type 0} (f : A → Option B) (o : Option A) (y : B) → option_and_then f o ≡ Some y
    → (x : A) × (o ≡ Some x) × (f x ≡ Some y)
and_then_some f None y is = cc
and_then_some f (Some x) y is = (x, refl, is)

if_some : {A : Type 0} (test : Bool) (o : Option A) (y : A) → (if test then o else None) ≡ Some y → (test ≡ true) × (o ≡ Some y)
if_some true o y is = (refl, is)
if_some false o y is = cc

same_some : {A : Type 0} (x y : A) → Some x ≡ Some y → x ≡ y
same_some x y is = cc

first_two : (a b c d : Bool) → (a && b && c && d) ≡ true → (a ≡ true) × (b ≡ true)
first_two true true c d is = (refl, refl)
first_two true false c d is = absurd (false≢true is)
first_two false b c d is = absurd (false≢true is)

field_is : (name text : List ℕ) (value : ℕ) → field_of name text ≡ Some value
    → (length (drop (length name) text) ≡ 16) × (hex_after 0 (drop (length name) text) ≡ value)
unfolding field_of word_of
field_is name text value is =
    let word = if_some _ _ value is in
    let parts = if_some _ _ value word.1 in
    (eqb-true (length (drop (length name) text)) 16 ((and_parts _ _ parts.0).0), same_some _ _ parts.1)

from_is : (first : ℕ) (text : List ℕ) (range : Range) → range_from first text ≡ Some range
    → (2 < length text) × (length text % 2 ≡ 1) × (record { first = first; bytes = bytes_of (drop 1 text) } ≡ range)
unfolding range_from
from_is first text range is =
    let parts = if_some _ _ range is in
    let both = first_two (nat_lt 2 (length text)) (length text % 2 == 1) _ _ ((and_parts _ _ parts.0).0) in
    (ltb-true 2 (length text) both.0, eqb-true (length text % 2) 1 both.1, same_some _ _ parts.1)

-- a line that is a range
pub record IsLine (text : List ℕ) (range : Range) : Type 0 where
  pub size : 22 < length text
  pub odd : length text % 2 ≡ 1
  pub first_is : range.first ≡ hex_after 0 (take 16 (drop 4 text))
  pub bytes_is : range.bytes ≡ bytes_of (drop 21 text)

pub line_is : (text : List ℕ) (range : Range) → range_of text ≡ Some range → IsLine text range
unfolding range_of
line_is text range is =
    let read = and_then_some _ _ range is in
    let field = field_is _ (take 20 text) read.0 read.1 in
    let from = from_is read.0 (drop 20 text) range read.2 in
    let count : length (drop 20 text) ≡ length text - 20 = length-drop 20 text in
    record {
      size = omega (arith, from.0, count);
      odd = omega (arith, from.0, from.1, count);
      first_is = sym (ap (λ r. r.first) from.2) ∙ sym field.1 ∙ ap (hex_after 0) (drop-take 4 16 text);
      bytes_is = sym (ap (λ r. r.bytes) from.2) ∙ ap bytes_of (drop-drop 1 20 text);
    }

none_from : {A : Type 0} (o : Option A) → ((x : A) → o ≡ Some x → ⊥) → o ≡ None
none_from None wrong = refl
none_from (Some x) wrong = absurd (wrong x refl)

pub short_line : (text : List ℕ) → length text < 20 → None ≡ option_map span_of (range_of text)
short_line text short =
    sym (ap (option_map span_of) (none_from (range_of text) (λ range is. (let form = line_is text range is in omega (arith, short, form.size)))))

mapped : {A B : Type 0} (f : A → B) (o : Option A) (y : B) → option_map f o ≡ Some y → (x : A) × (o ≡ Some x)
mapped f None y is = cc
mapped f (Some x) y is = (x, refl)

-- a line with an end is long
pub long_line : (text : List ℕ) (end : ℕ) → option_map end_of (range_of text) ≡ Some end → 22 < length text
long_line text end is =
    let range = mapped end_of (range_of text) end is in
    let form = line_is text range.0 range.1 in
    form.size

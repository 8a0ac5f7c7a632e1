-- Bytes over which others are written.
use Rattle.std.proofs.Common.{◌≡◌, ℕ, ◌+◌, ◌-◌, ◌<◌, ◌≤◌, true, false, inl, inr, List, [], ◌∷◌, ◌++◌, length, get_or, take, drop, Option, Some, None, refl, sym, ap, subst, ◌∙◌, arith, append_assoc, length-append, length-drop}
use Rattle.std.specs.Prelude.{All, unwrap_or, nat_le, replicate}
use Rattle.std.specs.Option.{option_or}
use Rattle.std.proofs.lemmas.List.{length-take-le, get_or_append_left, get_or-append_right, get_or-take, get_or-drop, drop-drop, take_at, length-replicate, get_or-replicate}
use Rattle.std.proofs.lemmas.List.Elements.{All-head, All-tail}
use Rattle.std.proofs.lemmas.Bool.{cases_lt}
use Rattle.std.proofs.lemmas.Bool.Decides.{nat_tests}
use Rattle.std.proofs.lemmas.Option.{slice_get-get_or, slice_get_past}
use borrow.Rule.Slice.PartMut.{put_mid}
use Rattle.link_values.specs.Written.{Write, IsInside, written, written_over, byte_in, last_byte}
use Rattle.link_values.proofs.EachLemmas.{Rest, rest_more, rest_all, all_front, all_back}

pub over_append : (bytes : List ℕ) (front back : List Write) → written_over bytes (front ++ back) ≡ written_over (written_over bytes front) back
unfolding written_over
over_append bytes [] back = refl
over_append bytes (write ∷ front) back = over_append (written bytes write) front back

pub length-written : (bytes : List ℕ) (write : Write) → IsInside (length bytes) write → length (written bytes write) ≡ length bytes
unfolding written
length-written bytes write inside =
    omega (
      arith,
      length-append (take write.0 bytes ++ write.1) (drop (write.0 + length write.1) bytes),
      length-append (take write.0 bytes) write.1,
      length-take-le write.0 bytes (omega arith),
      length-drop (write.0 + length write.1) bytes,
    )

-- over bytes of the same length
pub all_same : (one other : ℕ) (writes : List Write) → one ≡ other → All (IsInside other) writes → All (IsInside one) writes
all_same one other writes same inside = subst (λ size. All (IsInside size) writes) (sym same) inside

pub length_over : (bytes : List ℕ) (writes : List Write) → All (IsInside (length bytes)) writes → length (written_over bytes writes) ≡ length bytes
unfolding written_over
length_over bytes [] inside = refl
length_over bytes (write ∷ writes) inside =
    let same = length-written bytes write (All-head (IsInside (length bytes)) write writes inside) in
    length_over (written bytes write) writes (all_same (length (written bytes write)) (length bytes) writes same (All-tail (IsInside (length bytes)) write writes inside)) ∙ same

before_write : (bytes : List ℕ) (write : Write) (place : ℕ) → IsInside (length bytes) write → place < write.0
    → get_or (written bytes write) place 0 ≡ get_or bytes place 0
unfolding written
before_write bytes write place inside before =
    let long : length (take write.0 bytes) ≡ write.0 = length-take-le write.0 bytes (omega arith) in
    get_or_append_left (take write.0 bytes ++ write.1) (drop (write.0 + length write.1) bytes) 0 place (omega (arith, length-append (take write.0 bytes) write.1))
    ∙ get_or_append_left (take write.0 bytes) write.1 0 place (omega arith)
    ∙ get_or-take write.0 bytes place 0 before

in_write : (bytes : List ℕ) (write : Write) (place : ℕ) → IsInside (length bytes) write → write.0 ≤ place → place - write.0 < length write.1
    → get_or (written bytes write) place 0 ≡ get_or write.1 (place - write.0) 0
unfolding written
in_write bytes write place inside behind within =
    let long : length (take write.0 bytes) ≡ write.0 = length-take-le write.0 bytes (omega arith) in
    get_or_append_left (take write.0 bytes ++ write.1) (drop (write.0 + length write.1) bytes) 0 place (omega (arith, length-append (take write.0 bytes) write.1))
    ∙ get_or-append_right (take write.0 bytes) write.1 write.0 place 0 long behind

behind_write : (bytes : List ℕ) (write : Write) (place : ℕ) → IsInside (length bytes) write → write.0 + length write.1 ≤ place
    → get_or (written bytes write) place 0 ≡ get_or bytes place 0
unfolding written
behind_write bytes write place inside behind =
    let long : length (take write.0 bytes) ≡ write.0 = length-take-le write.0 bytes (omega arith) in
    let end : length (take write.0 bytes ++ write.1) ≡ write.0 + length write.1 = omega (arith, length-append (take write.0 bytes) write.1) in
    let there : write.0 + length write.1 + (place - (write.0 + length write.1)) ≡ place = omega arith in
    get_or-append_right (take write.0 bytes ++ write.1) (drop (write.0 + length write.1) bytes) (write.0 + length write.1) place 0 end behind
    ∙ get_or-drop (write.0 + length write.1) bytes (place - (write.0 + length write.1)) 0
    ∙ ap (λ n. get_or bytes n 0) there

-- the byte at a place, with one write over the others
byte_written : (bytes : List ℕ) (write : Write) (place : ℕ) → IsInside (length bytes) write
    → get_or (written bytes write) place 0 ≡ unwrap_or (byte_in write place) (get_or bytes place 0)
byte_written bytes write place inside =
    elim (cases_lt place write.0) [
      | inl before ↦
          let test : nat_le write.0 place ≡ false = grind (arith, nat_tests) in
          rw test (before_write bytes write place inside before)
      | inr behind ↦
          let test : nat_le write.0 place ≡ true = grind (arith, nat_tests) in
          rw test (elim (cases_lt (place - write.0) (length write.1)) [
            | inl within ↦
                let here = slice_get-get_or write.1 (place - write.0) 0 within in
                in_write bytes write place inside behind within ∙ sym (ap (λ found. unwrap_or found (get_or bytes place 0)) here)
            | inr past ↦
                let none = slice_get_past write.1 (place - write.0) past in
                behind_write bytes write place inside (omega arith) ∙ sym (ap (λ found. unwrap_or found (get_or bytes place 0)) none)
          ])
    ]

or_else : (found other : Option ℕ) (byte : ℕ) → unwrap_or (option_or found other) byte ≡ unwrap_or found (unwrap_or other byte)
or_else None other byte = refl
or_else (Some one) other byte = refl

pub byte_over : (bytes : List ℕ) (writes : List Write) (place : ℕ) → All (IsInside (length bytes)) writes → place < length bytes
    → get_or (written_over bytes writes) place 0 ≡ unwrap_or (last_byte writes place) (get_or bytes place 0)
unfolding written_over last_byte
byte_over bytes [] place inside within = refl
byte_over bytes (write ∷ writes) place inside within =
    let first = All-head (IsInside (length bytes)) write writes inside in
    let same = length-written bytes write first in
    byte_over (written bytes write) writes place (all_same (length (written bytes write)) (length bytes) writes same (All-tail (IsInside (length bytes)) write writes inside)) (omega arith)
    ∙ ap (unwrap_or (last_byte writes place)) (byte_written bytes write place first)
    ∙ sym (or_else (last_byte writes place) (byte_in write place) (get_or bytes place 0))

-- over zeros
pub length_zeros : (size : ℕ) (writes : List Write) → All (IsInside size) writes → length (written_over (replicate size 0) writes) ≡ size
length_zeros size writes inside =
    let long = length-replicate size 0 in
    length_over (replicate size 0) writes (all_same (length (replicate size 0)) size writes long inside) ∙ long

pub byte_zeros : (size : ℕ) (writes : List Write) (place : ℕ) → All (IsInside size) writes → place < size
    → get_or (written_over (replicate size 0) writes) place 0 ≡ unwrap_or (last_byte writes place) 0
byte_zeros size writes place inside within =
    let long = length-replicate size 0 in
    byte_over (replicate size 0) writes place (all_same (length (replicate size 0)) size writes long inside) (omega (arith, long))
    ∙ ap (unwrap_or (last_byte writes place)) (get_or-replicate size place 0 0 within)

-- what a copy over a part of the bytes leaves
pub put_written : (bytes part now : List ℕ) (at size : ℕ) → size ≡ length part → now ≡ part → put_mid at size bytes now ≡ written bytes (at, part)
unfolding written
put_written bytes part now at size long is =
    ap (λ (put : List ℕ). put_mid at size bytes put) is
    ∙ ap (λ (n : ℕ). put_mid at n bytes part) long
    ∙ ap (λ (rest : List ℕ). take at bytes ++ (part ++ rest)) (drop-drop (length part) at bytes)
    ∙ sym (append_assoc (take at bytes) part (drop (at + length part) bytes))

-- a vector whose items were all written has what was written
pub back_whole : (now old : List ℕ) (size : ℕ) → size ≡ length old → length now ≡ length old → take size (now ++ drop (length now) old) ≡ now
back_whole now old size long same = take_at now (drop (length now) old) size (same ∙ sym long)

module _ {X : Type 0} (make : ℕ → X → List Write) (items : List X) where
  -- from one item to the next
  pub written_more : (number : ℕ) (item : X) (bytes now all : List ℕ) → number < length items → item ≡ get_or items number item
      → written_over bytes (Rest make items number) ≡ all → now ≡ written_over bytes (make number item)
      → written_over now (Rest make items (number + 1)) ≡ all
  written_more number item bytes now all within read so_far is =
      ap (λ front. written_over front (Rest make items (number + 1))) is
      ∙ sym (over_append bytes (make number item) (Rest make items (number + 1)))
      ∙ ap (written_over bytes) (sym (rest_more make items number item within read))
      ∙ so_far

  pub item_inside : (number : ℕ) (item : X) (size : ℕ) → number < length items → item ≡ get_or items number item
      → All (IsInside size) (Rest make items number) → All (IsInside size) (make number item)
  item_inside number item size within read inside =
      all_front (IsInside size) (make number item) (Rest make items (number + 1))
      (subst (All (IsInside size)) (rest_more make items number item within read) inside)

  pub rest_inside : (number : ℕ) (item : X) (bytes now : List ℕ) → number < length items → item ≡ get_or items number item
      → All (IsInside (length bytes)) (Rest make items number) → now ≡ written_over bytes (make number item)
      → All (IsInside (length now)) (Rest make items (number + 1))
  rest_inside number item bytes now within read inside is =
      let both = subst (All (IsInside (length bytes))) (rest_more make items number item within read) inside in
      let front = all_front (IsInside (length bytes)) (make number item) (Rest make items (number + 1)) both in
      all_same (length now) (length bytes) (Rest make items (number + 1)) (ap length is ∙ length_over bytes (make number item) front)
      (all_back (IsInside (length bytes)) (make number item) (Rest make items (number + 1)) both)

  pub written_all : (number : ℕ) (bytes all : List ℕ) → length items ≤ number → written_over bytes (Rest make items number) ≡ all → bytes ≡ all
  unfolding written_over
  written_all number bytes all past so_far = sym (ap (written_over bytes) (rest_all make items number past)) ∙ so_far

-- How places of parts move, nest and are read.
use Rattle.std.proofs.Common.{◌≡◌, ℕ, zero, suc, ◌+◌, ◌^◌, ◌<◌, ◌≤◌, List, [], ◌∷◌, ◌++◌, length, take, drop, get_or, slice_index, inl, inr, refl, sym, ◌∙◌, ap, arith, append_assoc, length-append, length-drop}
use Rattle.std.specs.List.{flat_map}
use Rattle.std.proofs.lemmas.Bool.{cases_lt}
use Rattle.std.proofs.lemmas.List.{drop-drop, drop_at, drop-append-le, drop_all, take_at, take-append-drop, get_or-drop, nil_from_length, append-nil}
use Rattle.byteorder.specs.Endian.{little_bytes, little_number}
use Rattle.byteorder.specs.Numbers.{little_number-reads_back}
use Rattle.byte_layout.specs.Stands.{Stands}

-- all bytes stand at their start
pub stands_all : (bytes : List ℕ) → Stands bytes 0 bytes
stands_all bytes = record { behind = []; is = sym (append-nil bytes) }

-- no byte stands anywhere
pub stands_nowhere : (bytes : List ℕ) (at : ℕ) → Stands bytes at []
stands_nowhere bytes at = record { behind = drop at bytes; is = refl }

-- the beginning of a part
pub stands_front : (bytes : List ℕ) (at : ℕ) (part more : List ℕ) → Stands bytes at (part ++ more) → Stands bytes at part
stands_front bytes at part more stands =
    record { behind = more ++ stands.behind; is = stands.is ∙ append_assoc part more stands.behind }

-- the rest of a part
pub stands_back : (bytes : List ℕ) (at : ℕ) (part more : List ℕ) → Stands bytes at (part ++ more) → Stands bytes (at + length part) more
stands_back bytes at part more stands =
    record {
      behind = stands.behind;
      is = sym (drop-drop (length part) at bytes)
          ∙ ap (drop (length part)) (stands.is ∙ append_assoc part more stands.behind)
          ∙ drop_at part (more ++ stands.behind) (length part) refl;
    }

-- a place may be written in another way
pub stands_moved : (bytes : List ℕ) (at place : ℕ) (part : List ℕ) → at ≡ place → Stands bytes at part → Stands bytes place part
stands_moved bytes at place part same stands =
    record { behind = stands.behind; is = ap (λ n. drop n bytes) (sym same) ∙ stands.is }

-- so may a part
pub stands_same : (bytes : List ℕ) (at : ℕ) (part other : List ℕ) → part ≡ other → Stands bytes at part → Stands bytes at other
stands_same bytes at part other same stands =
    record { behind = stands.behind; is = stands.is ∙ ap (λ xs. xs ++ stands.behind) same }

-- past the end of bytes only the empty part stands
empty_past : (whole : List ℕ) (place : ℕ) (part : List ℕ) → length whole ≤ place → Stands whole place part → part ≡ []
empty_past whole place part past stands =
    let none : [] ≡ part ++ stands.behind = sym (drop_all place whole past) ∙ stands.is in
    nil_from_length part (omega (arith, length-append part stands.behind, ap length none))

-- a part of a part
pub stands_in : (bytes whole part : List ℕ) (at place : ℕ)
    → Stands bytes at whole → Stands whole place part → Stands bytes (at + place) part
stands_in bytes whole part at place outer inner =
    elim (cases_lt place (length whole)) [
      | inl within ↦
          record {
            behind = inner.behind ++ outer.behind;
            is = sym (drop-drop place at bytes)
                ∙ ap (drop place) outer.is
                ∙ drop-append-le place whole outer.behind (omega arith)
                ∙ ap (λ xs. xs ++ outer.behind) inner.is
                ∙ append_assoc part inner.behind outer.behind;
          }
      | inr past ↦
          stands_same bytes (at + place) [] part (sym (empty_past whole place part past inner)) (stands_nowhere bytes (at + place))
    ]

-- bytes begin with what they were before others were appended
pub stands_begun : (bytes old more : List ℕ) → bytes ≡ old ++ more → Stands bytes 0 old
stands_begun bytes old more is = record { behind = more; is = is }

-- bytes behind the last don't matter
pub stands_longer : (bytes more part : List ℕ) (at : ℕ) → Stands bytes at part → Stands (bytes ++ more) at part
stands_longer bytes more part at stands =
    stands_moved (bytes ++ more) (0 + at) at part (omega arith)
    (stands_in (bytes ++ more) bytes part 0 at (stands_begun (bytes ++ more) bytes more refl) stands)

-- a place from the start of a table
pub stands_from : (bytes part : List ℕ) (start at : ℕ) → Stands bytes (start + at) part → Stands (drop start bytes) at part
stands_from bytes part start at stands =
    record { behind = stands.behind; is = drop-drop at start bytes ∙ stands.is }

-- a part that has a byte lies within the bytes
pub stands_within : (bytes part : List ℕ) (at : ℕ) → Stands bytes at part → 0 < length part → at + length part ≤ length bytes
stands_within bytes part at stands some =
    omega (arith, length-drop at bytes, length-append part stands.behind, ap length stands.is)

-- what lies within the bytes stands there
pub stands_there : (bytes : List ℕ) (at count : ℕ) → Stands bytes at (take count (drop at bytes))
stands_there bytes at count =
    record { behind = drop count (drop at bytes); is = sym (take-append-drop count (drop at bytes)) }

-- and a part is what is read from its place
pub stands_is : (bytes part : List ℕ) (at : ℕ) → Stands bytes at part → take (length part) (drop at bytes) ≡ part
stands_is bytes part at stands =
    ap (take (length part)) stands.is ∙ take_at part stands.behind (length part) refl

-- one of several pieces
pub stands_each : {X : Type 0} (f : X → List ℕ) (bytes : List ℕ) (at : ℕ) (xs : List X) (i : ℕ) (d : X)
    → Stands bytes at (flat_map f xs) → i < length xs
    → Stands bytes (at + length (flat_map f (take i xs))) (f (get_or xs i d))
stands_each f bytes at [] i d stands inside = absurd (omega arith)
stands_each f bytes at (x ∷ xs) zero d stands inside =
    stands_moved bytes at (at + 0) (f x) (omega arith) (stands_front bytes at (f x) (flat_map f xs) stands)
stands_each f bytes at (x ∷ xs) (suc i) d stands inside =
    let rest : Stands bytes (at + length (f x) + length (flat_map f (take i xs))) (f (get_or xs i d))
    = stands_each f bytes (at + length (f x)) xs i d (stands_back bytes at (f x) (flat_map f xs) stands) (omega arith) in
    stands_moved bytes (at + length (f x) + length (flat_map f (take i xs))) (at + length (f x ++ flat_map f (take i xs))) (f (get_or xs i d))
    (omega (arith, length-append (f x) (flat_map f (take i xs)))) rest

-- a number of so many bytes, the lowest first
pub stands_number : (bytes : List ℕ) (at width number : ℕ)
    → Stands bytes at (little_bytes width number) → number < 256 ^ width → little_number width (drop at bytes) ≡ number
stands_number bytes at width number stands fits =
    ap (little_number width) stands.is ∙ little_number-reads_back width number stands.behind fits

-- a byte
pub stands_byte : (bytes part : List ℕ) (at i : ℕ) (stands : Stands bytes at part)
    → slice_index bytes (at + i) ≡ slice_index (part ++ stands.behind) i
stands_byte bytes part at i stands =
    sym (get_or-drop at bytes i 0) ∙ ap (λ xs. get_or xs i 0) stands.is

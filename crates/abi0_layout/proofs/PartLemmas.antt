-- Parts within parts, where they end, and how many there are.
use Rattle.std.proofs.Common.{◌≡◌, ◌≢◌, ◌-◌, ℕ, zero, suc, Bool, true, false, codes, List, [], ◌∷◌, ◌++◌, ◌==◌, ◌≤◌, ◌<◌, ◌+◌, ◌*◌, map, length, refl, ap, sym, ◌∙◌, arith, append_assoc, append-nil, inl, inr}
use Rattle.std.specs.List.{AllByRecursion}
use Rattle.std.proofs.lemmas.List.{map-append}
use Rattle.std.proofs.lemmas.Bool.{cases_Bool}
use Rattle.go_types.specs.Kinds.{Kind, Fields, plain, text, slice, empty_face, face, complex, array, structure, no_fields, field}
use Rattle.go_types.specs.Sizes.{size_of, place_of, end_of, widest, components_in, components_in_fields}
use Rattle.go_types.proofs.SizeLemmas.{ends_behind, not_before}
use Rattle.abi0_layout.specs.declared.parts.PartOf.{PartOf}
use Rattle.abi0_layout.specs.Parts.{part, listed, within, elements, element_suffix, parts_of, parts_of_fields, EndsBy}
use Rattle.abi0_layout.specs.Layouts.{components}

within_one : (front back : List ℕ) (at off : ℕ) (part : PartOf) → within front at (within back off part) ≡ within (front ++ back) (at + off) part
within_one front back at off part =
    rw (append_assoc front back part.name, (let e : (at + off) + part.off ≡ at + (off + part.off) = omega arith in e)) refl

pub within_within : (front back : List ℕ) (at off : ℕ) (parts : List PartOf)
    → map (within front at) (map (within back off) parts) ≡ map (within (front ++ back) (at + off)) parts
within_within front back at off [] = refl
within_within front back at off (part ∷ parts) =
    rw (within_one front back at off part, within_within front back at off parts) refl

within_none : (part : PartOf) → within [] 0 part ≡ part
within_none part = rw (let e : 0 + part.off ≡ part.off = omega arith in e) refl

pub within_nothing : (parts : List PartOf) → map (within [] 0) parts ≡ parts
within_nothing [] = refl
within_nothing (part ∷ parts) = rw (within_none part, within_nothing parts) refl

pub no_elements : (count index size : ℕ) → elements count index size [] ≡ []
no_elements zero index size = refl
no_elements (suc count) index size = no_elements count (index + 1) size

pub appended : (f : PartOf → PartOf) (old xs ys : List PartOf) → (old ++ map f xs) ++ map f ys ≡ old ++ map f (xs ++ ys)
appended f old xs ys = rw (append_assoc old (map f xs) (map f ys), map-append f xs ys) refl

-- Where parts end.

ends_more : (size more : ℕ) (parts : List PartOf) → size ≤ more → AllByRecursion (EndsBy size) parts → AllByRecursion (EndsBy more) parts
ends_more size more [] bound all = tt
ends_more size more (part ∷ parts) bound all = ((let h = all.0 in omega (arith, h, bound)), ends_more size more parts bound all.1)

ends_within : (name : List ℕ) (at size : ℕ) (parts : List PartOf) → AllByRecursion (EndsBy size) parts
    → AllByRecursion (EndsBy (at + size)) (map (within name at) parts)
ends_within name at size [] all = tt
ends_within name at size (part ∷ parts) all = ((let h = all.0 in omega (arith, h)), ends_within name at size parts all.1)

ends_both : (size : ℕ) (xs ys : List PartOf) → AllByRecursion (EndsBy size) xs → AllByRecursion (EndsBy size) ys → AllByRecursion (EndsBy size) (xs ++ ys)
ends_both size [] ys front back = back
ends_both size (x ∷ xs) ys front back = (front.0, ends_both size xs ys front.1 back)

listed_ends : (size : ℕ) (part : PartOf) → EndsBy size part → AllByRecursion (EndsBy size) (listed part)
listed_ends size part ends = elim (cases_Bool (part.width == 0)) [
  | inl none ↦ rw none tt
  | inr some ↦ rw some (ends, tt)
]

elements_end : (count index size : ℕ) (parts : List PartOf) → AllByRecursion (EndsBy size) parts
    → AllByRecursion (EndsBy ((index + count) * size)) (elements count index size parts)
elements_end zero index size parts all = tt
elements_end (suc count) index size parts all =
    let one = map (within (element_suffix index) (index * size)) parts in
    let others = elements count (index + 1) size parts in
    let all_size = (index + suc count) * size in
    ends_both all_size one others
    (ends_more (index * size + size) all_size one (omega arith) (ends_within (element_suffix index) (index * size) size parts all))
    (ends_more ((index + 1 + count) * size) all_size others (omega arith) (elements_end count (index + 1) size parts all))

mutual
  pub parts_end : (result : Bool) (kind : Kind) → AllByRecursion (EndsBy (size_of kind)) (parts_of result kind)
  parts_end result (plain size align) = listed_ends size (part result false size) (omega arith)
  parts_end result text = (omega arith, (omega arith, (omega arith, tt)))
  parts_end result slice = (omega arith, (omega arith, (omega arith, (omega arith, tt))))
  parts_end result empty_face = (omega arith, (omega arith, (omega arith, tt)))
  parts_end result face = (omega arith, (omega arith, (omega arith, tt)))
  parts_end result (complex size) = (omega arith, (omega arith, (omega arith, tt)))
  parts_end result (array count inner) =
      let size = size_of (array count inner) in
      let others = elements count 0 (size_of inner) (parts_of result inner) in
      ends_both size (listed (part result true size)) others (listed_ends size (part result true size) (omega arith))
      (ends_more ((0 + count) * size_of inner) size others (omega arith) (elements_end count 0 (size_of inner) (parts_of result inner) (parts_end result inner)))
  parts_end result (structure fields) =
      let size = size_of (structure fields) in
      let others = parts_of_fields result 0 fields in
      ends_both size (listed (part result true size)) others (listed_ends size (part result true size) (omega arith))
      (ends_more (end_of 0 fields) size others (not_before (end_of 0 fields) (widest fields)) (fields_end result 0 fields))

  pub fields_end : (result : Bool) (end : ℕ) (fields : Fields) → AllByRecursion (EndsBy (end_of end fields)) (parts_of_fields result end fields)
  fields_end result end no_fields = tt
  fields_end result end (field name kind others) =
      let place = place_of end kind in
      let next = place + size_of kind in
      let here = map (within (codes "_" ++ name) place) (parts_of result kind) in
      ends_both (end_of next others) here (parts_of_fields result next others)
      (ends_more next (end_of next others) here (ends_behind next others) (ends_within (codes "_" ++ name) place (size_of kind) (parts_of result kind) (parts_end result kind)))
      (fields_end result next others)

-- How many there are.

pub components_both : (xs ys : List PartOf) → components (xs ++ ys) ≡ components xs + components ys
components_both [] ys = omega arith
components_both (x ∷ xs) ys = let more = components_both xs ys in elim (cases_Bool x.whole) [
  | inl whole ↦ rw whole more
  | inr not_whole ↦ rw not_whole (omega (arith, more))
]

pub components_within : (name : List ℕ) (at : ℕ) (parts : List PartOf) → components (map (within name at) parts) ≡ components parts
components_within name at [] = refl
components_within name at (part ∷ parts) = rw (components_within name at parts) refl

components_elements : (count index size : ℕ) (parts : List PartOf) → components (elements count index size parts) ≡ count * components parts
components_elements zero index size parts = omega arith
components_elements (suc count) index size parts =
    let one = components_within (element_suffix index) (index * size) parts in
    let others = components_elements count (index + 1) size parts in
    let both = components_both (map (within (element_suffix index) (index * size)) parts) (elements count (index + 1) size parts) in
    omega (arith, one, others, both)

components_whole : (result : Bool) (size : ℕ) → components (listed (part result true size)) ≡ 0
components_whole result size = elim (cases_Bool (size == 0)) [
  | inl none ↦ rw none refl
  | inr some ↦ rw some refl
]

components_plain : (result : Bool) (size align : ℕ) → components (listed (part result false size)) ≡ components_in (plain size align)
components_plain result size align = elim (cases_Bool (size == 0)) [
  | inl none ↦ rw none refl
  | inr some ↦ rw some refl
]

mutual
  pub counted : (result : Bool) (kind : Kind) → components (parts_of result kind) ≡ components_in kind
  counted result (plain size align) = components_plain result size align
  counted result text = refl
  counted result slice = refl
  counted result empty_face = refl
  counted result face = refl
  counted result (complex size) = refl
  counted result (array count inner) =
      let size = size_of (array count inner) in
      components_both (listed (part result true size)) (elements count 0 (size_of inner) (parts_of result inner))
      ∙ (let none = components_whole result size in
      let all = components_elements count 0 (size_of inner) (parts_of result inner) in
      let one = counted result inner in
      let same : count * components (parts_of result inner) ≡ count * components_in inner = ap (λ (x : ℕ). count * x) one in
      omega (arith, none, all, same))
  counted result (structure fields) =
      let size = size_of (structure fields) in
      components_both (listed (part result true size)) (parts_of_fields result 0 fields)
      ∙ (let none = components_whole result size in let all = counted_fields result 0 fields in omega (arith, none, all))

  pub counted_fields : (result : Bool) (end : ℕ) (fields : Fields) → components (parts_of_fields result end fields) ≡ components_in_fields fields
  counted_fields result end no_fields = refl
  counted_fields result end (field name kind others) =
      let place = place_of end kind in
      let both = components_both (map (within (codes "_" ++ name) place) (parts_of result kind)) (parts_of_fields result (place + size_of kind) others) in
      let here = components_within (codes "_" ++ name) place (parts_of result kind) in
      let one = counted result kind in
      let rest = counted_fields result (place + size_of kind) others in
      omega (arith, both, here, one, rest)

-- What a loop over fields needs at a field.

-- one element lies within all of them
pub one_within : (count size most : ℕ) → count ≢ 0 → count * size ≤ most → size ≤ most
one_within zero size most some all = absurd (some refl)
one_within (suc count) size most some all = omega (arith, all)

-- a field lies within the room of all
pub field_within : (at end most whole : ℕ) (name : List ℕ) (kind : Kind) (others : Fields) → end_of end (field name kind others) ≡ whole → at + whole ≤ most
    → at + place_of end kind + size_of kind ≤ most
field_within at end most whole name kind others is room =
    let behind = ends_behind (place_of end kind + size_of kind) others in
    omega (arith, behind, is, room)

pub field_pushed : (f : PartOf → PartOf) (result : Bool) (old new whole : List PartOf) (end off size : ℕ) (name : List ℕ) (kind : Kind) (others : Fields)
    → off ≡ place_of end kind → size ≡ size_of kind
    → new ≡ old ++ map f (map (within (codes "_" ++ name) off) (parts_of result kind))
    → old ++ map f (parts_of_fields result end (field name kind others)) ≡ whole
    → new ++ map f (parts_of_fields result (off + size) others) ≡ whole
field_pushed f result old new whole end off size name kind others placed sized pushed so_far =
    rw (pushed, placed, sized)
    (appended f old (map (within (codes "_" ++ name) (place_of end kind)) (parts_of result kind)) (parts_of_fields result (place_of end kind + size_of kind) others) ∙ so_far)

-- What a loop over elements needs at an element.

pub element_within : (count index size at most : ℕ) → index < count → at + count * size ≤ most → size ≤ most - (at + index * size)
element_within count index size at most before room =
    let is : count ≡ (index + 1) + (count - (index + 1)) = omega arith in
    let all : count * size ≡ index * size + size + (count - (index + 1)) * size = ap (λ (n : ℕ). n * size) is ∙ spread index (count - (index + 1)) size in
    omega (arith, all, room) where
      spread : (index others size : ℕ) → ((index + 1) + others) * size ≡ index * size + size + others * size
      spread index others size = omega arith

pub element_ends : (count index size at most : ℕ) (parts : List PartOf) → index < count → at + count * size ≤ most
    → AllByRecursion (EndsBy size) parts → AllByRecursion (EndsBy (most - (at + index * size))) parts
element_ends count index size at most parts before room all =
    ends_more size (most - (at + index * size)) parts (element_within count index size at most before room) all

pub element_pushed : (f : PartOf → PartOf) (old new whole : List PartOf) (count index size : ℕ) (parts : List PartOf) → index < count
    → new ≡ old ++ map f (map (within (element_suffix index) (index * size)) parts)
    → old ++ map f (elements (count - index) index size parts) ≡ whole
    → new ++ map f (elements (count - (index + 1)) (index + 1) size parts) ≡ whole
element_pushed f old new whole count index size parts before pushed so_far =
    let is : count - index ≡ suc (count - (index + 1)) = omega arith in
    let here = rw is at so_far in
    rw pushed
    (appended f old (map (within (element_suffix index) (index * size)) parts) (elements (count - (index + 1)) (index + 1) size parts) ∙ here)

pub no_parts : (f : PartOf → PartOf) (old parts : List PartOf) (count size : ℕ) → length parts ≡ 0 → old ≡ old ++ map f (elements count 0 size parts)
no_parts f old [] count size none = rw no_elements (sym (append-nil old))
no_parts f old (part ∷ parts) count size none = absurd (omega arith)

-- Data that has room writes within the bytes of all data.
use Rattle.std.proofs.Common.{◌≡◌, inl, inr, true, ℕ, ℤ, ◌+◌, ◌≤◌, List, [], ◌∷◌, ◌++◌, length, Option, Some, None, refl, arith}
use Rattle.std.specs.Prelude.{All, unwrap_or}
use Rattle.std.specs.List.{slice_get}
use Rattle.std.specs.Option.{option_map, option_and_then}
use Rattle.std.proofs.lemmas.Bool.{cases_Bool}
use Rattle.std.proofs.lemmas.Bool.Decides.{nat_tests}
use Rattle.std.proofs.lemmas.List.Elements.{All-nil, All-cons, All-append}
use Rattle.asm_parse.specs.declared.unit.Unit.{Unit as Said}
use Rattle.asm_parse.specs.declared.unit.Symbol.{Symbol}
use Rattle.asm_parse.specs.declared.unit.DataPart.{DataPart}
use Rattle.asm_parse.specs.declared.unit.GlobalPart.{GlobalPart}
use Rattle.link_names.specs.declared.definition.Meaning.{Meaning}
use Rattle.link_names.specs.declared.definition.Meaning.TheVariants.{Function, Value, Outside}
use Rattle.link_names.specs.Definitions.{Key, Entry, each_from, key_at, meaning_in}
use Rattle.link_names.specs.Data.{size_by, size_of, is_within, part_end, has_room, part_misplaced, unit_misplaced, misplaced}
use Rattle.link_places.specs.Addresses.{address_in}
use Rattle.link_values.specs.Values.{AreNamesOf, bytes_by, part_write, part_writes, unit_writes, value_places, value_writes, values_end}
use Rattle.link_values.specs.Written.{IsInside}
use Rattle.link_values.proofs.KeptLemmas.{value_within}

nil_front : {X : Type 0} (front back : List X) → front ++ back ≡ [] → front ≡ []
nil_front [] back none = refl
nil_front (x ∷ front) back none = absurd cc

nil_back : {X : Type 0} (front back : List X) → front ++ back ≡ [] → back ≡ []
nil_back [] back none = none
nil_back (x ∷ front) back none = absurd cc

-- where a test tells nothing of an item, something holds of what is made of it
pair_all : {X Y Z : Type 0} (P : Y → Type 0) (test : ℕ → X → List Z) (make : ℕ → X → List Y)
    → ((number : ℕ) (item : X) → test number item ≡ [] → All P (make number item))
    → (number : ℕ) (items : List X) → each_from number test items ≡ [] → All P (each_from number make items)
unfolding each_from
pair_all P test make holds number [] none = All-nil P
pair_all P test make holds number (item ∷ items) none =
    All-append P (make number item) (each_from (number + 1) make items)
    (holds number item (nil_front (test number item) (each_from (number + 1) test items) none))
    (pair_all P test make holds (number + 1) items (nil_back (test number item) (each_from (number + 1) test items) none))

-- a global that a meaning leads to
module _ (names : List Entry) (units : List Said) (are : AreNamesOf names units) (key : Key) (last : ℕ) where
  abbrev EndsWithin : Option Meaning → Type 0
  EndsWithin meaning = unwrap_or (address_in (value_places names units) meaning) 0 + last ≤ values_end names units

  at_global : (unit number : ℕ) (said : Said) → meaning_in names key ≡ Some (Value unit number) → slice_get units unit ≡ Some said
      → (found : Option GlobalPart) → slice_get said.globals number ≡ found → is_within (option_map (λ global. global.size) found) last ≡ true
      → EndsWithin (Some (Value unit number))
  at_global unit number said means here None there within = absurd cc
  at_global unit number said means here (Some global) there within =
      let low : last ≤ global.size = grind (arith, nat_tests) in
      let place = value_within names units are key unit number said global means here there in
      rw place.1 (omega (arith, place.2, low))

  at_unit : (unit number : ℕ) → meaning_in names key ≡ Some (Value unit number) → (found : Option Said) → slice_get units unit ≡ found
      → is_within (option_and_then (λ said. option_map (λ global. global.size) (slice_get said.globals number)) found) last ≡ true
      → EndsWithin (Some (Value unit number))
  at_unit unit number means None here within = absurd cc
  at_unit unit number means (Some said) here within = at_global unit number said means here (slice_get said.globals number) refl within

  at_meaning : (meaning : Option Meaning) → meaning_in names key ≡ meaning → is_within (size_of units meaning) last ≡ true → EndsWithin meaning
  at_meaning None means within = absurd cc
  at_meaning (Some (Function unit number)) means within = absurd cc
  at_meaning (Some (Outside number)) means within = absurd cc
  at_meaning (Some (Value unit number)) means within = at_unit unit number means (slice_get units unit) refl within

module _ (names : List Entry) (units : List Said) (are : AreNamesOf names units) (addresses : List (Meaning × ℕ)) where
  -- how many bytes a part of data writes
  length-by : (unit : ℕ) (symbols : List Symbol) (address : Option (ℕ × ℤ)) (bytes : List ℕ)
      → length (bytes_by names (value_places names units) addresses unit symbols address bytes) ≡ size_by address bytes
  length-by unit symbols None bytes = refl
  length-by unit symbols (Some to) bytes = refl

  part_inside : (unit : ℕ) (symbols : List Symbol) (number : ℕ) (part : DataPart) → part_misplaced units names unit symbols number part ≡ []
      → All (IsInside (values_end names units)) (part_writes names (value_places names units) addresses unit symbols number part)
  part_inside unit symbols number part none =
      elim (cases_Bool (has_room units names unit symbols part)) [
        | inl room ↦
            let key = key_at unit symbols part.sym in
            let within = at_meaning names units are key (part_end part) (meaning_in names key) refl room in
            let long = length-by unit symbols part.address part.bytes in
            let inside : IsInside (values_end names units) (part_write names (value_places names units) addresses unit symbols part)
            = omega (arith, within, long) in
            All-cons (IsInside (values_end names units)) (part_write names (value_places names units) addresses unit symbols part) [] inside
            (All-nil (IsInside (values_end names units)))
        | inr lacks ↦ let wrong : (key_at unit symbols part.sym).0 ∷ [] ≡ [] = rw lacks at none in absurd cc
      ]

  pub writes_inside : misplaced units names ≡ [] → All (IsInside (values_end names units)) (value_writes names units addresses)
  writes_inside none =
      pair_all (IsInside (values_end names units)) (unit_misplaced units names) (unit_writes names (value_places names units) addresses)
      (λ unit said nothing.
      pair_all (IsInside (values_end names units)) (part_misplaced units names unit said.symbols)
      (part_writes names (value_places names units) addresses unit said.symbols) (part_inside unit said.symbols) 0 said.values nothing)
      0 units none

-- What data writes, by equal places.
use Rattle.std.proofs.Common.{◌≡◌, ℕ, ◌+◌, List, [], ◌∷◌, ◌++◌, length, refl, sym, ap, subst, ◌∙◌}
use Rattle.std.specs.Prelude.{All, unwrap_or}
use Rattle.std.proofs.lemmas.List.{length-map}
use Rattle.asm_parse.specs.declared.unit.Unit.{Unit as Said}
use Rattle.asm_parse.specs.declared.unit.Symbol.{Symbol}
use Rattle.asm_parse.specs.declared.unit.DataPart.{DataPart}
use Rattle.link_names.specs.declared.definition.Meaning.{Meaning}
use Rattle.link_names.specs.Definitions.{Entry, each_from, key_at, meaning_in}
use Rattle.link_places.specs.Addresses.{address_in, TellsAs}
use Rattle.link_places.specs.Places.{places_from, end_from}
use Rattle.link_places.proofs.PlaceLemmas.{length-places}
use Rattle.link_values.specs.declared.kept.KeptValue.{KeptValue}
use Rattle.link_values.specs.Kept.{kept_values, sizes_of, placed}
use Rattle.link_values.specs.Values.{bytes_by, part_writes, unit_writes, writes_of, value_places, value_writes, values_end}
use Rattle.link_values.specs.Written.{IsInside}
use Rattle.link_values.proofs.WrittenLemmas.{all_same}

each_same : {X Y : Type 0} (make other : ℕ → X → List Y) → ((number : ℕ) (item : X) → make number item ≡ other number item)
    → (number : ℕ) (items : List X) → each_from number make items ≡ each_from number other items
unfolding each_from
each_same make other same number [] = refl
each_same make other same number (item ∷ items) =
    ap (λ front. front ++ each_from (number + 1) make items) (same number item)
    ∙ ap (λ rest. other number item ++ rest) (each_same make other same (number + 1) items)

module _ (names : List Entry) (places others addresses : List (Meaning × ℕ)) (tells : TellsAs places others) where
  part_same : (unit : ℕ) (symbols : List Symbol) (number : ℕ) (part : DataPart)
      → part_writes names places addresses unit symbols number part ≡ part_writes names others addresses unit symbols number part
  part_same unit symbols number part =
      ap (λ found. (unwrap_or found 0 + part.off, bytes_by names places addresses unit symbols part.address part.bytes) ∷ [])
      (tells (meaning_in names (key_at unit symbols part.sym)))

  unit_same : (unit : ℕ) (said : Said) → unit_writes names places addresses unit said ≡ unit_writes names others addresses unit said
  unit_same unit said =
      each_same (part_writes names places addresses unit said.symbols) (part_writes names others addresses unit said.symbols) (part_same unit said.symbols) 0 said.values

  pub writes_same : (units : List Said) → writes_of names places addresses units ≡ writes_of names others addresses units
  writes_same units = each_same (unit_writes names places addresses) (unit_writes names others addresses) unit_same 0 units

-- the data that is kept, with its places, however it is told
module _ (names : List Entry) (units : List Said) (kept : List KeptValue) (at : List ℕ) (told addresses : List (Meaning × ℕ))
    (kept_is : kept ≡ kept_values names units) (at_is : at ≡ places_from 0 (sizes_of kept)) (tells : TellsAs told (placed kept at)) where
  told_places : TellsAs told (value_places names units)
  told_places meaning =
      tells meaning
      ∙ ap (λ pairs. address_in pairs meaning)
      (ap (placed kept) at_is ∙ ap (λ (values : List KeptValue). placed values (places_from 0 (sizes_of values))) kept_is)

  pub told_writes : writes_of names told addresses units ≡ value_writes names units addresses
  told_writes = writes_same names told (value_places names units) addresses told_places units

  -- they lie within as many bytes
  pub told_inside : (size : ℕ) → size ≡ values_end names units → All (IsInside (values_end names units)) (value_writes names units addresses)
      → All (IsInside size) (writes_of names told addresses units)
  told_inside size end inside =
      subst (All (IsInside size)) (sym told_writes) (all_same size (values_end names units) (value_writes names units addresses) end inside)

-- where all data ends
pub ended : (names : List Entry) (units : List Said) (kept : List KeptValue) (end : ℕ) → kept ≡ kept_values names units → end ≡ end_from 0 (sizes_of kept)
    → end ≡ values_end names units
ended names units kept end kept_is end_is = end_is ∙ ap (λ (values : List KeptValue). end_from 0 (sizes_of values)) kept_is

-- there is a place for each
pub as_many : (kept : List KeptValue) (at : List ℕ) → at ≡ places_from 0 (sizes_of kept) → length kept ≡ length at
as_many kept at is = sym (ap length is ∙ length-places 0 (sizes_of kept) ∙ length-map kept (λ value. value.size))

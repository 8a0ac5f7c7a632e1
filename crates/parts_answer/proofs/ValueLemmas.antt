-- The data of a build is one, by what its symbols stand for.
use Rattle.std.proofs.Common.{◌≡◌, ℕ, ◌+◌, List, [], ◌∷◌, Option, Some, None, refl, ap, ◌∙◌, if◌then◌else◌}
use Rattle.std.specs.Prelude.{ℤ, replicate, unwrap_or}
use Rattle.std.specs.Int.{w64, to_le_bytes}
use Rattle.asm_parse.specs.declared.unit.DataPart.{DataPart}
use Rattle.asm_parse.specs.declared.unit.GlobalPart.{GlobalPart}
use Rattle.asm_parse.specs.declared.unit.Symbol.{Symbol}
use Rattle.asm_parse.specs.declared.unit.Unit.{Unit as Said}
use Rattle.link_names.specs.declared.definition.Meaning.{Meaning}
use Rattle.link_names.specs.Definitions.{Entry, MeansAs, key_at, meaning_in}
use Rattle.link_places.specs.Addresses.{TellsAs, address_in}
use Rattle.link_places.specs.Places.{end_from, places_from}
use Rattle.link_values.specs.declared.kept.KeptValue.{KeptValue}
use Rattle.link_values.specs.Kept.{is_value, kept_values, placed, sizes_of, unit_kept, value_kept}
use Rattle.link_values.specs.Values.{address_of, bytes_by, moved, part_writes, unit_writes, value_bytes, value_places, value_writes, writes_of}
use Rattle.link_values.specs.Written.{Write, written_over}
use Rattle.parts_answer.proofs.ZipLemmas.{each_same}

module _ (names others : List Entry) (means : MeansAs names others) where
  same_value : (unit : ℕ) (symbols : List Symbol) (number : ℕ) (global : GlobalPart)
      → value_kept names unit symbols number global ≡ value_kept others unit symbols number global
  same_value unit symbols number global =
      let value : KeptValue = record { unit = unit; number = number; size = global.size } in
      ap (λ (meaning : Option Meaning). if is_value unit number meaning then value ∷ [] else []) (means (key_at unit symbols global.sym))

  same_unit_kept : (unit : ℕ) (said : Said) → unit_kept names unit said ≡ unit_kept others unit said
  same_unit_kept unit said =
      each_same (value_kept names unit said.symbols) (value_kept others unit said.symbols) (same_value unit said.symbols) 0 said.globals

  pub same_kept : (units : List Said) → kept_values names units ≡ kept_values others units
  same_kept units = each_same (unit_kept names) (unit_kept others) same_unit_kept 0 units

  module _ (addresses again : List (Meaning × ℕ)) (tells : TellsAs addresses again) where
    same_address : (unit : ℕ) (symbols : List Symbol) (number : ℕ)
        → address_of names addresses unit symbols number ≡ address_of others again unit symbols number
    same_address unit symbols number =
        let key = key_at unit symbols number in
        ap (λ (meaning : Option Meaning). unwrap_or (address_in addresses meaning) 0) (means key)
        ∙ ap (λ (found : Option ℕ). unwrap_or found 0) (tells (meaning_in others key))

    module _ (places : List (Meaning × ℕ)) where
      same_bytes : (unit : ℕ) (symbols : List Symbol) (address : Option (ℕ × ℤ)) (bytes : List ℕ)
          → bytes_by names places addresses unit symbols address bytes ≡ bytes_by others places again unit symbols address bytes
      same_bytes unit symbols None bytes = refl
      same_bytes unit symbols (Some to) bytes =
          ap (λ (address : ℕ). to_le_bytes w64 (moved address to.1)) (same_address unit symbols to.0)

      same_write : (unit : ℕ) (symbols : List Symbol) (number : ℕ) (part : DataPart)
          → part_writes names places addresses unit symbols number part ≡ part_writes others places again unit symbols number part
      same_write unit symbols number part =
          let place : ℕ → Write = λ found. (found + part.off, bytes_by names places addresses unit symbols part.address part.bytes) in
          let other : List ℕ → Write = λ bytes. (address_of others places unit symbols part.sym + part.off, bytes) in
          ap (λ (found : Option Meaning). place (unwrap_or (address_in places found) 0) ∷ []) (means (key_at unit symbols part.sym))
          ∙ ap (λ (bytes : List ℕ). other bytes ∷ []) (same_bytes unit symbols part.address part.bytes)

      same_unit_writes : (unit : ℕ) (said : Said)
          → unit_writes names places addresses unit said ≡ unit_writes others places again unit said
      same_unit_writes unit said =
          each_same (part_writes names places addresses unit said.symbols) (part_writes others places again unit said.symbols)
          (same_write unit said.symbols) 0 said.values

      same_writes : (units : List Said) → writes_of names places addresses units ≡ writes_of others places again units
      same_writes units = each_same (unit_writes names places addresses) (unit_writes others places again) same_unit_writes 0 units

    pub same_value_bytes : (units : List Said) → value_bytes names units addresses ≡ value_bytes others units again
    same_value_bytes units =
        let kept = same_kept units in
        let places : value_places names units ≡ value_places others units
        = ap (λ (kept : List KeptValue). placed kept (places_from 0 (sizes_of kept))) kept in
        let writes : value_writes names units addresses ≡ value_writes others units again
        = ap (λ (places : List (Meaning × ℕ)). writes_of names places addresses units) places
        ∙ same_writes (value_places others units) units in
        ap (λ (kept : List KeptValue). written_over (replicate (end_from 0 (sizes_of kept)) 0) (value_writes names units addresses)) kept
        ∙ ap (written_over (replicate (end_from 0 (sizes_of (kept_values others units))) 0)) writes

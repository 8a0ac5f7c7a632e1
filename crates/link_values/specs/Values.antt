-- The bytes of a build's data: zeros, over which its `DATA` statements write in their order.
use Rattle.std.specs.Prelude.{ℕ, ℤ, ◌+◌, ◌%◌, ◌^◌, List, [], ◌∷◌, Option, Some, None, unwrap_or, replicate}
use Rattle.std.specs.Int.{w64, cast_unsigned, to_le_bytes}
use Rattle.asm_parse.specs.declared.unit.Unit.{Unit as Said}
use Rattle.asm_parse.specs.declared.unit.Symbol.{Symbol}
use Rattle.asm_parse.specs.declared.unit.DataPart.{DataPart}
use Rattle.link_names.specs.declared.definition.Meaning.{Meaning}
use Rattle.link_names.specs.Definitions.{Entry, MeansAs, each, entries_of, key_at, meaning_in}
use Rattle.link_places.specs.Places.{places_from, end_from}
use Rattle.link_places.specs.Addresses.{address_in}
use Rattle.link_values.specs.Kept.{kept_values, sizes_of, placed}
use Rattle.link_values.specs.Written.{Write, written_over}

-- an address and an offset from it, modulo 2^64
abbrev pub moved : ℕ → ℤ → ℕ
moved address offset = (address + cast_unsigned w64 offset) % 2 ^ 64

-- the address of the symbol of this number; 0 where it has none, which isn't so in the data of a build whose names are all told
abbrev pub address_of : List Entry → List (Meaning × ℕ) → ℕ → List Symbol → ℕ → ℕ
address_of names addresses unit symbols number = unwrap_or (address_in addresses (meaning_in names (key_at unit symbols number))) 0

module _ (names : List Entry) (places addresses : List (Meaning × ℕ)) where
  -- the bytes of a part of data: an address has eight, the lowest first
  abbrev pub bytes_by : ℕ → List Symbol → Option (ℕ × ℤ) → List ℕ → List ℕ
  bytes_by unit symbols None bytes = bytes
  bytes_by unit symbols (Some to) bytes = to_le_bytes w64 (moved (address_of names addresses unit symbols to.0) to.1)

  -- a `DATA` writes behind the place of what its symbol stands for
  abbrev pub part_write : ℕ → List Symbol → DataPart → Write
  part_write unit symbols part = (address_of names places unit symbols part.sym + part.off, bytes_by unit symbols part.address part.bytes)

  abbrev pub part_writes : ℕ → List Symbol → ℕ → DataPart → List Write
  part_writes unit symbols number part = part_write unit symbols part ∷ []

  abbrev pub unit_writes : ℕ → Said → List Write
  unit_writes unit said = each (part_writes unit said.symbols) said.values

  -- by units and by `DATA`
  abbrev pub writes_of : List Said → List Write
  writes_of units = each unit_writes units

module _ (names : List Entry) (units : List Said) where
  abbrev pub value_sizes : List ℕ
  value_sizes = sizes_of (kept_values names units)

  -- where the data stands that is kept, from the first byte of all data on
  abbrev pub value_places : List (Meaning × ℕ)
  value_places = placed (kept_values names units) (places_from 0 value_sizes)

  -- how many bytes all data has
  abbrev pub values_end : ℕ
  values_end = end_from 0 value_sizes

  -- what the `DATA` statements write
  abbrev pub value_writes : List (Meaning × ℕ) → List Write
  value_writes addresses = writes_of names value_places addresses units

  abbrev pub value_bytes : List (Meaning × ℕ) → List ℕ
  value_bytes addresses = written_over (replicate values_end 0) (value_writes addresses)

-- these are the names of a build with these units and some outside names
abbrev pub AreNamesOf : List Entry → List Said → Type 0
AreNamesOf names units = (outside : List (List ℕ × ℕ)) × MeansAs names (entries_of units outside)

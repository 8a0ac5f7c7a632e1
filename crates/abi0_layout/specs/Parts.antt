-- The parts of a value: the value itself where it's broken down, and then its components, each with the name and the
-- place that it has within the value (as cmd/vet's asmdecl names them).
use Rattle.std.specs.Prelude.{ℕ, zero, suc, pos, Bool, true, false, List, [], ◌∷◌, ◌++◌, ◌+◌, ◌*◌, ◌/◌, ◌==◌, ◌≤◌, map, codes, if◌then◌else◌}
use Rattle.goasm_base.specs.Numbers.{decimal_text}
use Rattle.go_types.specs.Kinds.{Kind, Fields, plain, text, slice, empty_face, face, complex, array, structure, no_fields, field}
use Rattle.go_types.specs.Sizes.{size_of, place_of}
use Rattle.abi0_layout.specs.declared.parts.PartOf.{PartOf}

-- a part with an empty name at the place 0
abbrev pub part : Bool → Bool → ℕ → PartOf
part result whole width = record { name = []; off = 0; width = width; whole = whole; result = result }

-- what takes no bytes isn't listed
abbrev pub listed : PartOf → List PartOf
listed part = if part.width == 0 then [] else part ∷ []

-- a part of what has this name and stands at this place
abbrev pub within : List ℕ → ℕ → PartOf → PartOf
within name off part = record part { name = name ++ part.name; off = off + part.off }

-- a component, by what is appended to the name
abbrev pub component : Bool → List ℕ → ℕ → ℕ → PartOf
component result suffix off width = record { name = suffix; off = off; width = width; whole = false; result = result }

-- a value of so many bytes, and its first two components, each of this width
abbrev pub two : Bool → ℕ → ℕ → List ℕ → List ℕ → List PartOf
two result size width first second =
    part result true size ∷ component result first 0 width ∷ component result second width width ∷ []

-- what is appended to the name for an element of an array
abbrev pub element_suffix : ℕ → List ℕ
element_suffix index = codes "_" ++ decimal_text (pos index)

-- so many elements from this one on, each of this size and with these parts
abbrev pub elements : ℕ → ℕ → ℕ → List PartOf → List PartOf
elements zero index size parts = []
elements (suc count) index size parts =
    map (within (element_suffix index) (index * size)) parts ++ elements count (index + 1) size parts

abbrev mutual
  pub parts_of : Bool → Kind → List PartOf
  parts_of result (plain size align) = listed (part result false size)
  parts_of result text = two result 16 8 (codes "_base") (codes "_len")
  parts_of result slice =
      two result 24 8 (codes "_base") (codes "_len") ++ component result (codes "_cap") 16 8 ∷ []
  parts_of result empty_face = two result 16 8 (codes "_type") (codes "_data")
  parts_of result face = two result 16 8 (codes "_itable") (codes "_data")
  parts_of result (complex size) = two result size (size / 2) (codes "_real") (codes "_imag")
  parts_of result (array count inner) =
      listed (part result true (size_of (array count inner))) ++ elements count 0 (size_of inner) (parts_of result inner)
  parts_of result (structure fields) =
      listed (part result true (size_of (structure fields))) ++ parts_of_fields result 0 fields

  -- of fields behind what ends there
  pub parts_of_fields : Bool → ℕ → Fields → List PartOf
  parts_of_fields result end no_fields = []
  parts_of_fields result end (field name kind others) =
      map (within (codes "_" ++ name) (place_of end kind)) (parts_of result kind)
      ++ parts_of_fields result (place_of end kind + size_of kind) others

-- a part lies within so many bytes
abbrev pub EndsBy : ℕ → PartOf → Type 0
EndsBy size part = part.off + part.width ≤ size

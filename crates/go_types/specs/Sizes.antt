-- How many bytes a value of a type takes, and of which number its address is a multiple (as in Go's go/types, StdSizes).
use Rattle.std.specs.Prelude.{ℕ, ◌+◌, ◌*◌, ◌/◌, ◌^◌, ◌==◌, max, if◌then◌else◌}
use Rattle.std.specs.Int.{next_multiple_of}
use Rattle.go_types.specs.Kinds.{Kind, Fields, plain, text, slice, empty_face, face, complex, array, structure, no_fields, field}

abbrev mutual
  pub align_of : Kind → ℕ
  align_of (plain size align) = align
  -- as one of its two parts
  align_of (complex size) = size / 2
  align_of (array count inner) = align_of inner
  align_of (structure fields) = widest fields
  align_of _ = 8

  -- the greatest of the fields; 1 where there is none
  pub widest : Fields → ℕ
  widest no_fields = 1
  widest (field name kind others) = max (align_of kind) (widest others)

-- the place of a value behind what ends there
abbrev pub place_of : ℕ → Kind → ℕ
place_of end kind = next_multiple_of end (align_of kind)

abbrev mutual
  pub size_of : Kind → ℕ
  size_of (plain size align) = size
  size_of text = 16
  size_of slice = 24
  size_of empty_face = 16
  size_of face = 16
  size_of (complex size) = size
  size_of (array count inner) = count * size_of inner
  size_of (structure fields) = next_multiple_of (end_of 0 fields) (widest fields)

  -- where fields end that follow what ends here, each at a multiple of its alignment
  pub end_of : ℕ → Fields → ℕ
  end_of end no_fields = end
  end_of end (field name kind others) = end_of (place_of end kind + size_of kind) others

-- how many parts that aren't broken down further a value has, of those that take bytes
abbrev mutual
  pub components_in : Kind → ℕ
  components_in (plain size align) = if size == 0 then 0 else 1
  -- its address and its length
  components_in text = 2
  -- its address, its length and its capacity
  components_in slice = 3
  -- its type or its table of methods, and its value
  components_in empty_face = 2
  components_in face = 2
  components_in (complex size) = 2
  components_in (array count inner) = count * components_in inner
  components_in (structure fields) = components_in_fields fields

  pub components_in_fields : Fields → ℕ
  components_in_fields no_fields = 0
  components_in_fields (field name kind others) = components_in kind + components_in_fields others

-- sizes and counts are told up to here
abbrev pub most_size : ℕ
most_size = 2 ^ 32

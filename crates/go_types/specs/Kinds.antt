-- Go types as clauses see them.
use Rattle.std.specs.Prelude.{◌≡◌, ◌⊎◌, ℕ, suc, ◌+◌, ◌≤◌, max, map, List, [], ◌∷◌}
use Rattle.go_types.specs.declared.go_type.GoType.{GoType, fold-GoType}
use Rattle.go_types.specs.declared.go_type.GoType.TheOpen.{GoType-F}

mutual
  pub data Kind : Type 0 where
    -- with its size and its alignment
    plain : ℕ → ℕ → Kind
    text : Kind
    slice : Kind
    empty_face : Kind
    face : Kind
    -- with its size
    complex : ℕ → Kind
    -- with the count of its elements and their type
    array : ℕ → Kind → Kind
    structure : Fields → Kind

  pub data Fields : Type 0 where
    no_fields : Fields
    -- a field with its name, and those behind it
    field : List ℕ → Kind → Fields → Fields

abbrev pub fields_from : List (List ℕ × Kind) → Fields
fields_from [] = no_fields
fields_from (first ∷ others) = field first.0 first.1 (fields_from others)

-- one level, with each type inside already seen as its kind
abbrev pub kind_step : GoType-F Kind → Kind
kind_step (GoType-F.Plain size align) = plain size align
kind_step GoType-F.Text = text
kind_step GoType-F.Slice = slice
kind_step GoType-F.EmptyFace = empty_face
kind_step GoType-F.Face = face
kind_step (GoType-F.Complex size) = complex size
kind_step (GoType-F.Array count inner) = array count inner.value
kind_step (GoType-F.Struct fields) = structure (fields_from fields.items)

abbrev pub kind_of : GoType → Kind
kind_of = fold-GoType Kind kind_step

abbrev pub kinds_of : List (List ℕ × GoType) → Fields
kinds_of fields = fields_from (map (λ named. (named.0, kind_of named.1)) fields)

-- how many types a type holds, itself counted
abbrev mutual
  pub types_in : Kind → ℕ
  types_in (array count inner) = suc (types_in inner)
  types_in (structure fields) = suc (types_in_fields fields)
  types_in _ = 1

  pub types_in_fields : Fields → ℕ
  types_in_fields no_fields = 0
  types_in_fields (field name kind others) = types_in kind + types_in_fields others

-- how many levels a type goes down, itself counted
abbrev mutual
  pub levels_of : Kind → ℕ
  levels_of (array count inner) = suc (levels_of inner)
  levels_of (structure fields) = suc (levels_of_fields fields)
  levels_of _ = 1

  pub levels_of_fields : Fields → ℕ
  levels_of_fields no_fields = 0
  levels_of_fields (field name kind others) = max (levels_of kind) (levels_of_fields others)

-- an alignment that a type may have
abbrev pub IsAlignment : ℕ → Type 0
IsAlignment align = (align ≡ 1) ⊎ ((align ≡ 2) ⊎ ((align ≡ 4) ⊎ (align ≡ 8)))

-- alignments and the sizes of complex numbers are those that there are
abbrev mutual
  pub IsAligned : Kind → Type 0
  IsAligned (plain size align) = IsAlignment align
  IsAligned (complex size) = (size ≡ 8) ⊎ (size ≡ 16)
  IsAligned (array count inner) = IsAligned inner
  IsAligned (structure fields) = AreAligned fields
  IsAligned _ = Unit {0}

  pub AreAligned : Fields → Type 0
  AreAligned no_fields = Unit {0}
  AreAligned (field name kind others) = IsAligned kind × AreAligned others

-- what every call that takes a type relies on
pub record IsSoundKind (kind : Kind) : Type 0 where
  pub aligned : IsAligned kind
  pub levels : levels_of kind ≤ 100

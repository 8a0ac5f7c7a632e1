-- Types, level by level.
use Rattle.std.proofs.Common.{◌≡◌, ℕ, ◌+◌, ◌<◌, List, ◌∷◌, length, get_or, drop, ap, ◌∙◌, sym, rules, Vec, Box, Global}
use Rattle.std.proofs.lemmas.List.{drop_more}
use Rattle.go_types.specs.Kinds.{array, structure, field, kind_of, kinds_of}
use Rattle.go_types.specs.declared.go_type.GoType.{GoType, Array, Struct, the_lemmas}

pub kind_of_struct : (fields : Vec (List ℕ × GoType) Global) → kind_of (Struct fields) ≡ structure (kinds_of fields.items)
kind_of_struct fields = search (rules, the_lemmas)

pub kind_of_array : (count : ℕ) (inner : Box GoType Global) → kind_of (Array count inner) ≡ array count (kind_of inner.value)
kind_of_array count inner = search (rules, the_lemmas)

-- the fields from a place on, at which this one stands
pub fields_at : (fields : List (List ℕ × GoType)) (i : ℕ) (first : List ℕ × GoType) → i < length fields → first ≡ get_or fields i first
    → kinds_of (drop i fields) ≡ field first.0 (kind_of first.1) (kinds_of (drop (i + 1) fields))
fields_at fields i first within is =
    let here : drop i fields ≡ first ∷ drop (i + 1) fields = drop_more fields i first within ∙ ap (λ y. y ∷ drop (i + 1) fields) (sym is) in
    ap kinds_of here

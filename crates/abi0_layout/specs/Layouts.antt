-- The layout of a function's arguments and results. Arguments stand in order, each at a multiple of its alignment; if there
-- are results, they begin at the next multiple of 8.
use Rattle.std.specs.Prelude.{ℕ, pos, Bool, true, false, List, [], ◌∷◌, ◌++◌, ◌+◌, ◌^◌, ◌==◌, ◌||◌, nat_lt, map, codes, bytes_eq, Option, Some, None, Result, Ok, Err, if◌then◌else◌}
use Rattle.std.specs.Int.{next_multiple_of}
use Rattle.goasm_base.specs.Numbers.{decimal_text}
use Rattle.go_types.specs.Sizes.{size_of, place_of, end_of, components_in}
use Rattle.go_types.specs.Kinds.{Fields, no_fields, field}
use Rattle.go_types.specs.Signatures.{Parameter, Signature}
use Rattle.abi0_layout.specs.declared.parts.PartOf.{PartOf}
use Rattle.abi0_layout.specs.declared.parts.Layout.{Layout}
use Rattle.abi0_layout.specs.declared.layout_no.LayoutNo.{LayoutNo}
use Rattle.abi0_layout.specs.declared.layout_no.LayoutNo.TheVariants.{Y1}
use Rattle.abi0_layout.specs.Parts.{parts_of, within}

-- arguments and results stand as the fields of a struct do
abbrev pub as_fields : List Parameter → Fields
as_fields [] = no_fields
as_fields (parameter ∷ others) = field [] parameter.kind (as_fields others)

-- where parameters end that stand behind what ends there
abbrev pub end_of_list : ℕ → List Parameter → ℕ
end_of_list end parameters = end_of end (as_fields parameters)

-- where results begin behind arguments that end there
abbrev pub results_start : ℕ → List Parameter → ℕ
results_start end [] = end
results_start end (result ∷ others) = next_multiple_of end 8

-- the name of one that isn't named: `arg` and `ret`, from the second on with its number from 0
abbrev pub front : Bool → List ℕ
front result = if result then codes "ret" else codes "arg"

abbrev pub numbered : Bool → ℕ → List ℕ
numbered result index = front result ++ (if index == 0 then [] else decimal_text (pos index))

abbrev pub name_of : Bool → ℕ → Option (List ℕ) → List ℕ
name_of result index (Some name) = name
name_of result index None = numbered result index

-- `_`, which takes its place and isn't listed
abbrev pub is_blank : Option (List ℕ) → Bool
is_blank (Some name) = bytes_eq name (codes "_")
is_blank None = false

-- of a parameter that stands at this place
abbrev pub parts_of_one : Bool → ℕ → ℕ → Parameter → List PartOf
parts_of_one result index off parameter =
    if is_blank parameter.name then []
    else map (within (name_of result index parameter.name) off) (parts_of result parameter.kind)

-- of parameters from this one on, behind what ends there
abbrev pub parts_of_list : Bool → ℕ → ℕ → List Parameter → List PartOf
parts_of_list result index end [] = []
parts_of_list result index end (parameter ∷ others) =
    parts_of_one result index (place_of end parameter.kind) parameter
    ++ parts_of_list result (index + 1) (place_of end parameter.kind + size_of parameter.kind) others

abbrev pub start_of_results : Signature → ℕ
start_of_results signature = results_start (end_of_list 0 signature.params) signature.results

abbrev pub whole_layout : Signature → (List PartOf × ℕ)
whole_layout signature = (
  parts_of_list false 0 0 signature.params ++ parts_of_list true 0 (start_of_results signature) signature.results,
  end_of_list (start_of_results signature) signature.results,
)

-- how many of the parts aren't broken down further
abbrev pub components : List PartOf → ℕ
components [] = 0
components (part ∷ parts) = if part.whole then components parts else components parts + 1

-- how many of the parts of parameters aren't broken down further
abbrev pub components_in_list : List Parameter → ℕ
components_in_list [] = 0
components_in_list (parameter ∷ others) =
    (if is_blank parameter.name then 0 else components_in parameter.kind) + components_in_list others

-- the most bytes that a layout takes, and the most components that it has
abbrev pub most_bytes : ℕ
most_bytes = 2 ^ 30

abbrev pub most_components : ℕ
most_components = 65_536

abbrev pub is_too_large : List PartOf × ℕ → Bool
is_too_large layout = nat_lt most_bytes layout.1 || nat_lt most_components (components layout.0)

abbrev pub layout_of : Signature → Result Layout LayoutNo
layout_of signature =
    if is_too_large (whole_layout signature) then Err (Y1 signature.pos)
    else Ok (record { parts = (whole_layout signature).0; size = (whole_layout signature).1 })

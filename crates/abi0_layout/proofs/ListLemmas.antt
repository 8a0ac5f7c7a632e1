-- Lists of parameters.
use Rattle.std.proofs.Common.{◌≡◌, ℕ, Bool, true, false, if◌then◌else◌, List, [], ◌∷◌, ◌++◌, ◌≤◌, ◌<◌, ◌+◌, min, map, length, drop, get_or, refl, ap, sym, ◌∙◌, ◌||◌, nat_lt, append_assoc, inl, inr, arith}
use Rattle.std.proofs.lemmas.List.{drop_more}
use Rattle.std.proofs.lemmas.Bool.{cases_Bool}
use Rattle.std.proofs.lemmas.Bool.Decides.{nat_tests}
use Rattle.std.specs.Int.{next_multiple_of}
use Rattle.go_types.specs.Sizes.{size_of, place_of, end_of, components_in, most_size}
use Rattle.go_types.specs.Signatures.{Parameter, Signature, parameter_of}
use Rattle.go_types.specs.declared.declarations.Param.{Param}
use Rattle.go_types.proofs.SizeLemmas.{ends_behind, end_told, rounded_told}
use Rattle.abi0_layout.specs.declared.parts.PartOf.{PartOf}
use Rattle.abi0_layout.specs.Parts.{parts_of}
use Rattle.abi0_layout.specs.Layouts.{as_fields, end_of_list, results_start, start_of_results, name_of, is_blank, parts_of_one, parts_of_list, whole_layout, components, components_in_list, most_bytes, most_components, is_too_large}
use Rattle.abi0_layout.proofs.PartLemmas.{components_both, components_within, counted}

-- the parameters from a place on, at which this one stands
pub parameters_at : (list : List Param) (i : ℕ) (first : Param) → i < length list → first ≡ get_or list i first
    → map parameter_of (drop i list) ≡ parameter_of first ∷ map parameter_of (drop (i + 1) list)
parameters_at list i first within is =
    let here : drop i list ≡ first ∷ drop (i + 1) list = drop_more list i first within ∙ ap (λ y. y ∷ drop (i + 1) list) (sym is) in
    ap (map parameter_of) here

pub count_told : (most before told inner whole others : ℕ) (blank : Bool) → told ≡ min (before + (if blank then 0 else inner)) most → inner ≡ min whole most
    → min (told + others) most ≡ min (before + ((if blank then 0 else whole) + others)) most
count_told most before told inner whole others true is capped = omega (arith, is)
count_told most before told inner whole others false is capped = omega (arith, is, capped)

pub parameter_within : (end most whole : ℕ) (parameter : Parameter) (others : List Parameter) → end_of_list end (parameter ∷ others) ≡ whole → whole ≤ most
    → place_of end parameter.kind + size_of parameter.kind ≤ most
parameter_within end most whole parameter others is room =
    let behind = ends_behind (place_of end parameter.kind + size_of parameter.kind) (as_fields others) in
    omega (arith, behind, is, room)

pub parameter_pushed : (result : Bool) (old new whole : List PartOf) (index end off size : ℕ) (parameter : Parameter) (others : List Parameter)
    → off ≡ place_of end parameter.kind → size ≡ size_of parameter.kind
    → new ≡ old ++ parts_of_one result index off parameter
    → old ++ parts_of_list result index end (parameter ∷ others) ≡ whole
    → new ++ parts_of_list result (index + 1) (off + size) others ≡ whole
parameter_pushed result old new whole index end off size parameter others placed sized pushed so_far =
    rw (pushed, placed, sized)
    (append_assoc old (parts_of_one result index (place_of end parameter.kind) parameter) (parts_of_list result (index + 1) (place_of end parameter.kind + size_of parameter.kind) others) ∙ so_far)

-- How many components a list has.

counted_one : (result : Bool) (index off : ℕ) (parameter : Parameter)
    → components (parts_of_one result index off parameter) ≡ (if is_blank parameter.name then 0 else components_in parameter.kind)
counted_one result index off parameter = elim (cases_Bool (is_blank parameter.name)) [
  | inl blank ↦ rw blank refl
  | inr listed ↦ rw listed (components_within (name_of result index parameter.name) off (parts_of result parameter.kind) ∙ counted result parameter.kind)
]

pub counted_list : (result : Bool) (index end : ℕ) (parameters : List Parameter) → components (parts_of_list result index end parameters) ≡ components_in_list parameters
counted_list result index end [] = refl
counted_list result index end (parameter ∷ others) =
    let place = place_of end parameter.kind in
    let next = place + size_of parameter.kind in
    components_both (parts_of_one result index place parameter) (parts_of_list result (index + 1) next others)
    ∙ ap (λ (n : ℕ). n + components (parts_of_list result (index + 1) next others)) (counted_one result index place parameter)
    ∙ ap (λ (n : ℕ). (if is_blank parameter.name then 0 else components_in parameter.kind) + n) (counted_list result (index + 1) next others)

-- What is told up to a limit tells whether a layout is too large.

pub whole_told : (most end start : ℕ) (results : List Parameter) → start ≡ min (results_start (min end most) results) most
    → min (end_of_list start results) most ≡ min (end_of_list (results_start end results) results) most
whole_told most end start [] is = omega (arith, is)
whole_told most end start (result ∷ others) is =
    let fields = as_fields (result ∷ others) in
    let rounded = rounded_told most (min end most) 8 end (omega arith) (omega arith) in
    ap (λ (x : ℕ). min (end_of x fields) most) (is ∙ rounded) ∙ end_told most (next_multiple_of end 8) fields

above_told : (bound most x : ℕ) → bound < most → nat_lt bound (min x most) ≡ nat_lt bound x
above_told bound most x below = grind (arith, nat_tests)

above_both : (bound most x y : ℕ) → bound < most → nat_lt bound (min x most + min y most) ≡ nat_lt bound (x + y)
above_both bound most x y below = grind (arith, nat_tests)

pub told_too_large : (signature : Signature) (bytes before behind : ℕ)
    → bytes ≡ min (whole_layout signature).1 most_size
    → before ≡ min (components_in_list signature.params) most_size → behind ≡ min (components_in_list signature.results) most_size
    → (nat_lt most_bytes bytes || nat_lt most_components (before + behind)) ≡ is_too_large (whole_layout signature)
told_too_large signature bytes before behind size params results =
    let start = start_of_results signature in
    let all : components (whole_layout signature).0 ≡ components_in_list signature.params + components_in_list signature.results =
    components_both (parts_of_list false 0 0 signature.params) (parts_of_list true 0 start signature.results)
    ∙ ap (λ (n : ℕ). n + components (parts_of_list true 0 start signature.results)) (counted_list false 0 0 signature.params)
    ∙ ap (λ (n : ℕ). components_in_list signature.params + n) (counted_list true 0 start signature.results) in
    rw (
      size,
      params,
      results,
      all,
      above_told most_bytes most_size (whole_layout signature).1 (omega arith),
      above_both most_components most_size (components_in_list signature.params) (components_in_list signature.results) (omega arith),
    ) refl

-- The addresses that surround functions, item by item.
use Rattle.std.proofs.Common.{◌≡◌, ℕ, ◌+◌, ◌<◌, ◌≤◌, Bool, true, false, List, [], ◌∷◌, ◌++◌, length, get_or, map, filter, take, cond, if◌then◌else◌, refl, sym, ap, subst, ◌∙◌, arith}
use Rattle.std.specs.List.Sorted.{IsNonDecreasing}
use Rattle.std.proofs.lemmas.List.{get_or-map, length-map, map-append}
use Rattle.std.proofs.lemmas.List.Elements.{filter_more}
use Rattle.image_rules.specs.Parts.{is_growth_name}
use Rattle.link_flow.specs.Around.{addresses_of, growth_of}

moved_order : (from a b : ℕ) → a ≤ b → from + a ≤ from + b
moved_order from a b low = omega arith

pub moved_rise : (from : ℕ) (xs : List ℕ) → IsNonDecreasing xs → IsNonDecreasing (map (λ x. from + x) xs)
moved_rise from xs rise i j d low less =
    let move : ℕ → ℕ = λ (x : ℕ). from + x in
    let within : j < length xs = subst (λ (n : ℕ). j < n) (length-map xs move) less in
    let one = get_or-map move xs i d d (omega arith) in
    let other = get_or-map move xs j d d within in
    subst (λ (n : ℕ). n ≤ get_or (map move xs) j d) (sym one)
    (subst (λ (n : ℕ). from + get_or xs i d ≤ n) (sym other) (moved_order from (get_or xs i d) (get_or xs j d) (rise i j d low within)))

one_address : (passes : Bool) (name : List ℕ × ℕ) → addresses_of (cond passes (name ∷ []) []) ≡ if passes then name.1 ∷ [] else []
one_address true name = refl
one_address false name = refl

-- one more name outside
pub growth_more : (outside : List (List ℕ × ℕ)) (k : ℕ) (name : List ℕ × ℕ) → k < length outside → name ≡ get_or outside k name
    → growth_of (take (k + 1) outside) ≡ growth_of (take k outside) ++ (if is_growth_name name.0 then name.1 ∷ [] else [])
growth_more outside k name within read =
    let test : List ℕ × ℕ → Bool = λ (name : List ℕ × ℕ). is_growth_name name.0 in
    ap addresses_of (filter_more test outside k name within)
    ∙ ap (λ (name : List ℕ × ℕ). addresses_of (filter test (take k outside) ++ cond (test name) (name ∷ []) [])) (sym read)
    ∙ map-append (λ (name : List ℕ × ℕ). name.1) (filter test (take k outside)) (cond (test name) (name ∷ []) [])
    ∙ ap (λ more. growth_of (take k outside) ++ more) (one_address (is_growth_name name.0) name)

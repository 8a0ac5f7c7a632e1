-- Whether a function has a layout, by what is told of its arguments and results up to a limit.
use Rattle.std.proofs.Common.{◌≡◌, ℕ, Bool, true, false, List, [], ◌∷◌, ◌++◌, ◌≤◌, ◌+◌, ◌||◌, nat_lt, min, map, refl, ap, sym, ◌∙◌, Ok, Err, arith}
use Rattle.std.proofs.lemmas.Bool.Decides.{nat_tests}
use Rattle.go_types.specs.Sizes.{most_size}
use Rattle.go_types.specs.Signatures.{Parameter, Signature, parameter_of, signature_of}
use Rattle.go_types.specs.declared.declarations.Param.{Param}
use Rattle.go_types.specs.declared.declarations.Func.{Func}
use Rattle.go_types.proofs.SizeLemmas.{ends_behind, not_before}
use Rattle.abi0_layout.specs.declared.parts.PartOf.{PartOf}
use Rattle.abi0_layout.specs.declared.layout_no.LayoutNo.TheVariants.{Y1}
use Rattle.abi0_layout.specs.Layouts.{as_fields, end_of_list, results_start, start_of_results, parts_of_list, whole_layout, components_in_list, most_bytes, most_components, is_too_large, layout_of}
use Rattle.abi0_layout.proofs.ListLemmas.{whole_told, told_too_large}

-- what is told of a function: where its arguments end and its results begin and end, how many components these have, and
-- whether that is too much
pub record IsTold (signature : Signature) (end start bytes before behind : ℕ) (large : Bool) : Type 0 where
  pub end_is : end ≡ min (end_of_list 0 signature.params) most_size
  pub start_is : start ≡ min (results_start end signature.results) most_size
  pub bytes_is : bytes ≡ min (end_of_list start signature.results) most_size
  pub before_is : before ≡ min (components_in_list signature.params) most_size
  pub behind_is : behind ≡ min (components_in_list signature.results) most_size
  pub large_is : large ≡ (nat_lt most_bytes bytes || nat_lt most_components (before + behind))

bytes_told : (signature : Signature) (end start bytes before behind : ℕ) (large : Bool) → IsTold signature end start bytes before behind large
    → bytes ≡ min (whole_layout signature).1 most_size
bytes_told signature end start bytes before behind large told =
    told.bytes_is ∙ whole_told most_size (end_of_list 0 signature.params) start signature.results
    (told.start_is ∙ ap (λ (e : ℕ). min (results_start e signature.results) most_size) told.end_is)

large_told : (signature : Signature) (end start bytes before behind : ℕ) (large : Bool) → IsTold signature end start bytes before behind large
    → large ≡ is_too_large (whole_layout signature)
large_told signature end start bytes before behind large told =
    told.large_is ∙ told_too_large signature bytes before behind (bytes_told signature end start bytes before behind large told) told.before_is told.behind_is

pub is_refused : (signature : Signature) (end start bytes before behind : ℕ) (large : Bool) → IsTold signature end start bytes before behind large
    → large ≡ true → layout_of signature ≡ Err (Y1 signature.pos)
is_refused signature end start bytes before behind large told refused =
    let too_large : is_too_large (whole_layout signature) ≡ true = sym (large_told signature end start bytes before behind large told) ∙ refused in
    rw too_large refl

first_false : (one other : Bool) → (one || other) ≡ false → one ≡ false
first_false false other none = refl
first_false true other none = none

results_behind : (end : ℕ) (results : List Parameter) → end ≤ results_start end results
results_behind end [] = omega arith
results_behind end (result ∷ others) = not_before end 8

-- what holds where it isn't too much
pub record IsExact (signature : Signature) (start bytes : ℕ) : Type 0 where
  pub start_is : start ≡ start_of_results signature
  pub bytes_is : bytes ≡ (whole_layout signature).1
  pub params_is : end_of_list 0 signature.params ≤ most_bytes
  pub results_is : (whole_layout signature).1 ≤ most_bytes

pub is_exact : (signature : Signature) (end start bytes before behind : ℕ) (large : Bool) → IsTold signature end start bytes before behind large
    → large ≡ false → IsExact signature start bytes
is_exact signature end start bytes before behind large told fits =
    let size = bytes_told signature end start bytes before behind large told in
    let few : nat_lt most_bytes bytes ≡ false = first_false (nat_lt most_bytes bytes) (nat_lt most_components (before + behind)) (sym told.large_is ∙ fits) in
    let within : bytes ≤ most_bytes = grind (arith, nat_tests) in
    let all : end_of_list (start_of_results signature) signature.results ≤ most_bytes = omega (arith, size, within) in
    let from_start = ends_behind (start_of_results signature) (as_fields signature.results) in
    let from_end = results_behind (end_of_list 0 signature.params) signature.results in
    let end_is : end ≡ end_of_list 0 signature.params = omega (arith, told.end_is, all, from_start, from_end) in
    let start_is : start ≡ min (start_of_results signature) most_size = told.start_is ∙ ap (λ (e : ℕ). min (results_start e signature.results) most_size) end_is in
    record {
      start_is = omega (arith, start_is, all, from_start);
      bytes_is = omega (arith, size, within);
      params_is = omega (arith, all, from_start, from_end);
      results_is = all;
    }

pub is_allowed : (signature : Signature) (end start bytes before behind : ℕ) (large : Bool) (first parts : List PartOf)
    → IsTold signature end start bytes before behind large → large ≡ false
    → first ≡ [] ++ parts_of_list false 0 0 signature.params
    → parts ≡ first ++ parts_of_list true 0 start signature.results
    → layout_of signature ≡ Ok (record { parts = parts; size = bytes })
is_allowed signature end start bytes before behind large first parts told fits made both =
    let exact = is_exact signature end start bytes before behind large told fits in
    let not_large : is_too_large (whole_layout signature) ≡ false = sym (large_told signature end start bytes before behind large told) ∙ fits in
    rw (not_large, both, made, exact.start_is, exact.bytes_is) refl

pub told_of : (func : Func) (params results : List Param) (end start bytes before behind : ℕ) (large : Bool)
    → params ≡ func.params → results ≡ func.results
    → end ≡ min (end_of_list 0 (map parameter_of params)) most_size
    → start ≡ min (results_start end (map parameter_of results)) most_size
    → bytes ≡ min (end_of_list start (map parameter_of results)) most_size
    → before ≡ min (components_in_list (map parameter_of params)) most_size
    → behind ≡ min (components_in_list (map parameter_of results)) most_size
    → large ≡ (nat_lt most_bytes bytes || nat_lt most_components (before + behind))
    → IsTold (signature_of func) end start bytes before behind large
told_of func params results end start bytes before behind large ps rs p1 p2 p3 p4 p5 p6 = record {
  end_is = p1 ∙ ap (λ (ys : List Param). min (end_of_list 0 (map parameter_of ys)) most_size) ps;
  start_is = p2 ∙ ap (λ (ys : List Param). min (results_start end (map parameter_of ys)) most_size) rs;
  bytes_is = p3 ∙ ap (λ (ys : List Param). min (end_of_list start (map parameter_of ys)) most_size) rs;
  before_is = p4 ∙ ap (λ (ys : List Param). min (components_in_list (map parameter_of ys)) most_size) ps;
  behind_is = p5 ∙ ap (λ (ys : List Param). min (components_in_list (map parameter_of ys)) most_size) rs;
  large_is = p6;
}

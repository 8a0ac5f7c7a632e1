-- Where the results of a build and its refusals stand.
use Rattle.std.proofs.Common.{◌≡◌, ℕ, suc, ◌+◌, ◌<◌, ◌≤◌, max, List, [], ◌∷◌, ◌++◌, length, map, All, Option, Some, is_some, Result, Ok, Err, bytes_eq, arith, subst}
use Rattle.std.proofs.lemmas.List.Elements.{All-nil, All-cons}
use Rattle.goasm_base.specs.declared.pos.Pos.{Pos}
use Rattle.asm_lex.specs.declared.token.Tokens.{Tokens}
use Rattle.asm_lex.specs.Form.{AreTokens}
use Rattle.asm_macro.specs.declared.refusal.MacroNo.{MacroNo}
use Rattle.asm_macro.specs.declared.refusal.MacroNo.TheVariants.{M1, M2, M3, M4, M5, M6, M7, Memory}
use Rattle.asm_macro.specs.declared.limits.Limits.{Limits}
use Rattle.asm_directive.specs.Names.{Names, nothing, with_name}
use Rattle.asm_macro.specs.Refusals.{Refuses}
use Rattle.asm_directive.specs.LineNames.{line_names_of}
use Rattle.asm_macro.specs.Builds.{greatest, greatest_file, context_for, expansion}
use Rattle.asm_macro.specs.Places.{file_count, AreInTheirFile, ArePlaced, StandsIn, RefusedAt, RefusedIn, IsBelow}
use Rattle.asm_macro.proofs.RefusalLemmas.{holds_either}
use Rattle.asm_macro.proofs.BuildLemmas.{greatest_append}
use Rattle.asm_macro.proofs.NumberLemmas.{with_number, numbered_with, numbered_is}
use Rattle.asm_macro.proofs.FormFiles.{AreLinesOf, GoodNumbers}
use Rattle.asm_macro.proofs.FormBuilds.{IsGoodFile, GoodResults, ResultsOrRefusal, expansion_good}

greatest_over : (most : ℕ) (files : List ℕ) → most ≤ greatest most files
greatest_over most [] = omega arith
greatest_over most (file ∷ files) = let over = greatest_over (max most file) files in omega (arith, over)

-- each number of a file is at most the greatest one
numbers_within : {A : Type 0} (number : A → ℕ) (most whole : ℕ) (files : List A) → greatest most (map number files) ≤ whole → All (λ file. number file ≤ whole) files
numbers_within number most whole [] within = All-nil (λ file. number file ≤ whole)
numbers_within number most whole (file ∷ files) within =
    let over = greatest_over (max most (number file)) (map number files) in
    All-cons (λ file. number file ≤ whole) file files (omega (arith, over, within)) (numbers_within number (max most (number file)) whole files within)

front_within : (most whole : ℕ) (one other : List ℕ) → greatest most (one ++ other) ≤ whole → greatest most one ≤ whole
front_within most whole one other within =
    let over = greatest_over (greatest most one) other in
    let both = greatest_append most one other in
    omega (arith, over, both, within)

rest_within : (most whole : ℕ) (one other : List ℕ) → greatest most (one ++ other) ≤ whole → greatest (greatest most one) other ≤ whole
rest_within most whole one other within = let both = greatest_append most one other in omega (arith, both, within)

-- a number that no file's number passes isn't passed by the greatest one
pub greatest_within : {A : Type 0} (number : A → ℕ) (most whole : ℕ) (files : List A) → most ≤ whole → All (λ file. number file ≤ whole) files → greatest most (map number files) ≤ whole
greatest_within number most whole [] here all = here
greatest_within number most whole (file ∷ files) here all =
    greatest_within number (max most (number file)) whole files (let first = all 0 file (omega arith) in omega (arith, first, here)) (λ k d inside. all (suc k) d (omega (arith, inside)))

Below : ℕ → Option ℕ → Type 0
Below count given = (number : ℕ) → given ≡ Some number → AreLinesOf (StandsIn (IsBelow count)) number

put_number : (count : ℕ) (files : Names ℕ) (name : List ℕ) (number : ℕ) → GoodNumbers (StandsIn (IsBelow count)) files → number < count → GoodNumbers (StandsIn (IsBelow count)) (with_name files name (Some number))
unfolding with_name GoodNumbers Below
put_number count files name number all here = λ other.
    holds_either (Below count) (bytes_eq name other) (Some number) (files other) (λ found is. let same : number ≡ found = cc in λ line counted. record { file = rw (← same) here; line = counted }) (all other)

numbered_with_below : (count number : ℕ) (files : Names ℕ) (names : List (List ℕ)) → GoodNumbers (StandsIn (IsBelow count)) files → number + length names ≤ count → GoodNumbers (StandsIn (IsBelow count)) (numbered_with number files names)
unfolding numbered_with
numbered_with_below count number files [] all within = all
numbered_with_below count number files (name ∷ names) all within =
    numbered_with_below count (number + 1) (with_number files name number) names
    (holds_either (GoodNumbers (StandsIn (IsBelow count))) (is_some (files name)) files (with_name files name (Some number)) all
    (put_number count files name number all (omega (arith, within)))) (omega (arith, within))

no_numbers : (P : Pos → Type 0) → GoodNumbers P nothing
unfolding GoodNumbers
no_numbers P = λ name number is. cc

-- a file of a build
file_below : (count most : ℕ) (tokens : Tokens) → most < count → AreTokens tokens → AreInTheirFile tokens → tokens.file ≤ most → IsGoodFile (StandsIn (IsBelow count)) tokens
file_below count most tokens below form there within = record {
  form = form;
  file = λ line counted. record { file = omega (arith, below, within); line = counted };
  places = λ k d inside. let here = there k d inside in record { file = let same = here.file in omega (arith, below, within, same); line = here.line };
}

below_all : (sources : List Tokens) (includes defines : List (List ℕ × Tokens))
    → GoodNumbers (StandsIn (IsBelow (file_count sources includes defines))) (context_for sources includes defines).files
below_all sources includes defines =
    subst (GoodNumbers (StandsIn (IsBelow (file_count sources includes defines)))) (numbered_is (greatest_file sources includes defines + 1) (line_names_of sources includes))
    (numbered_with_below (file_count sources includes defines) (greatest_file sources includes defines + 1) nothing (line_names_of sources includes)
    (no_numbers (StandsIn (IsBelow (file_count sources includes defines)))) (omega arith))

pub placed_results : (limits : Limits) (sources : List Tokens) (includes defines : List (List ℕ × Tokens))
    → All AreTokens sources → All (λ include. AreTokens include.1) includes → All (λ define. AreTokens define.1) defines → ArePlaced sources includes defines
    → ResultsOrRefusal (StandsIn (IsBelow (file_count sources includes defines))) limits.tokens (expansion limits sources includes defines)
unfolding greatest_file
placed_results limits sources includes defines one two three placed =
    let most : ℕ = greatest_file sources includes defines in
    let count : ℕ = file_count sources includes defines in
    let below : most < count = omega arith in
    let whole : most ≤ most = omega arith in
    let a : List ℕ = map (λ tokens. tokens.file) sources in
    let b : List ℕ = map (λ include. include.1.file) includes in
    let c : List ℕ = map (λ define. define.1.file) defines in
    let first = numbers_within (λ tokens. tokens.file) 0 most sources (front_within 0 most a (b ++ c) whole) in
    let rest = rest_within 0 most a (b ++ c) whole in
    let second = numbers_within (λ include. include.1.file) (greatest 0 a) most includes (front_within (greatest 0 a) most b c rest) in
    let third = numbers_within (λ define. define.1.file) (greatest (greatest 0 a) b) most defines (rest_within (greatest 0 a) most b c rest) in
    expansion_good (StandsIn (IsBelow count)) limits sources includes defines (below_all sources includes defines)
    (λ k d inside. file_below count most _ below (one k d inside) (placed.in_sources k d inside) (first k d inside))
    (λ k d inside. file_below count most _ below (two k d inside) (placed.in_includes k d inside) (second k d inside))
    (λ k d inside. file_below count most _ below (three k d inside) (placed.in_defines k d inside) (third k d inside))

pub Anywhere : Pos → Type 0
Anywhere pos = Unit {0}

anywhere : (tokens : Tokens) → AreTokens tokens → IsGoodFile Anywhere tokens
unfolding Anywhere
anywhere tokens form = record { form = form; file = λ line counted. tt; places = λ k d inside. tt }

pub formed_results : (limits : Limits) (sources : List Tokens) (includes defines : List (List ℕ × Tokens))
    → All AreTokens sources → All (λ include. AreTokens include.1) includes → All (λ define. AreTokens define.1) defines
    → ResultsOrRefusal Anywhere limits.tokens (expansion limits sources includes defines)
unfolding Anywhere GoodNumbers
formed_results limits sources includes defines one two three =
    expansion_good Anywhere limits sources includes defines (λ name number is line counted. tt)
    (λ k d inside. anywhere _ (one k d inside)) (λ k d inside. anywhere _ (two k d inside)) (λ k d inside. anywhere _ (three k d inside))

pub results_of : (P : Pos → Type 0) (most : ℕ) (answer : Result (List Tokens) MacroNo) (all : List Tokens) → ResultsOrRefusal P most answer → answer ≡ Ok all → GoodResults P most all
results_of P most answer all good is = rw is at good

-- from positions to their files
refused_files : (files : ℕ → Type 0) (refusal : MacroNo) → RefusedAt (StandsIn files) refusal → RefusedIn files refusal
refused_files files (M1 pos) here = here.file
refused_files files (M2 pos) here = here.file
refused_files files (M3 pos) here = here.file
refused_files files (M4 pos) here = here.file
refused_files files (M5 pos) here = here.file
refused_files files (M6 pos) here = here.file
refused_files files (M7 pos) here = here.file
refused_files files Memory here = tt

refused_with : (files : ℕ → Type 0) (most : ℕ) (answer : Result (List Tokens) MacroNo) (refusal : MacroNo) → ResultsOrRefusal (StandsIn files) most answer → answer ≡ Err refusal → RefusedIn files refusal
refused_with files most answer refusal good is = refused_files files refusal (rw is at good)

pub refusal_of : (files : ℕ → Type 0) (most : ℕ) (answer : Result (List Tokens) MacroNo) (refusal : MacroNo) → ResultsOrRefusal (StandsIn files) most answer → Refuses answer refusal → RefusedIn files refusal
refusal_of files most answer (M1 pos) good is = refused_with files most answer (M1 pos) good (is tt)
refusal_of files most answer (M2 pos) good is = refused_with files most answer (M2 pos) good (is tt)
refusal_of files most answer (M3 pos) good is = refused_with files most answer (M3 pos) good (is tt)
refusal_of files most answer (M4 pos) good is = refused_with files most answer (M4 pos) good (is tt)
refusal_of files most answer (M5 pos) good is = refused_with files most answer (M5 pos) good (is tt)
refusal_of files most answer (M6 pos) good is = refused_with files most answer (M6 pos) good (is tt)
refusal_of files most answer (M7 pos) good is = refused_with files most answer (M7 pos) good (is tt)
refusal_of files most answer Memory good is = tt

-- How many names `#line` directives give: each of them takes four tokens at least.
use Rattle.std.proofs.Common.{◌≡◌, ℕ, ◌+◌, ◌*◌, ◌≤◌, Bool, true, false, ◌||◌, List, [], ◌∷◌, ◌++◌, map, length, Option, Some, None, inl, inr, refl, sym, ap, ◌∙◌, arith, length-append, bytes_eq}
use Rattle.std.specs.Prelude.{option_to_list}
use Rattle.std.specs.List.{flat_map, onto_first, before_first, position_or_len}
use Rattle.std.proofs.lemmas.Bool.{cases_Bool}
use Rattle.std.proofs.lemmas.List.{length-take}
use Rattle.std.proofs.lemmas.Grind.{flat_map-append}
use Rattle.std.proofs.lemmas.List.Sums.{sum_by-cons}
use Rattle.std.proofs.lemmas.List.Folds.{list_any-append}
use Rattle.std.proofs.Math.Bool.{or-false}
use Rattle.goasm_base.specs.NameSet.{AddsName}
use Rattle.asm_lex.specs.declared.token.Token.{Token}
use Rattle.asm_lex.specs.declared.token.Tokens.{Tokens}
use Rattle.asm_directive.specs.declared.keyword.Keyword.{Keyword}
use Rattle.asm_directive.specs.declared.keyword.Keyword.TheVariants as keywords
use Rattle.asm_directive.specs.Tokens.{is_newline}
use Rattle.asm_directive.specs.Statements.{split_inclusive, begins_with_hash, plain, statements_on, statements_of}
use Rattle.asm_directive.specs.Directives.{keyword, mark_in}
use Rattle.asm_directive.specs.LineNames.{name_of, name_said, name_in_words, name_by, names_by, names_in, is_among, with_name, distinct_behind, token_count, included_tokens, line_names_of}
use Rattle.asm_directive.specs.Seen.{Keeps}

at_most_one : (name : Option (List ℕ)) → length (option_to_list name) ≤ 1
at_most_one None = omega arith
at_most_one (Some name) = omega arith

mark_few : (words : List Token) → 4 * length (option_to_list (name_of (mark_in words))) ≤ 2 + length words
unfolding mark_in
mark_few [] = omega arith
mark_few (number ∷ []) = omega arith
mark_few (number ∷ token ∷ []) =
    let one = at_most_one (name_of (mark_in (number ∷ token ∷ []))) in omega (arith, one)
mark_few (number ∷ token ∷ next ∷ words) = omega arith

said_few : (said : Keyword) (words : List Token) → 4 * length (option_to_list (name_said said words)) ≤ 2 + length words
said_few keywords.Define words = omega arith
said_few keywords.Undef words = omega arith
said_few keywords.Include words = omega arith
said_few keywords.Ifdef words = omega arith
said_few keywords.Ifndef words = omega arith
said_few keywords.Else words = omega arith
said_few keywords.Endif words = omega arith
said_few keywords.Line words = mark_few words
said_few keywords.Other words = omega arith

words_few : (words : List Token) → 4 * length (option_to_list (name_in_words words)) ≤ 1 + length words
words_few [] = omega arith
words_few (word ∷ words) = let few = said_few (keyword word) words in omega (arith, few)

statement_few : (directive : Bool) (tokens : List Token) → 4 * length (option_to_list (name_by directive tokens)) ≤ length tokens
unfolding name_by
statement_few true [] = omega arith
statement_few false [] = omega arith
statement_few true (first ∷ tokens) =
    let few = words_few (before_first is_newline tokens) in
    let front = length-take (position_or_len is_newline tokens) tokens in
    omega (arith, few, front)
statement_few false (first ∷ tokens) = omega arith

no_name : (part : List Token) → names_by (plain part) ≡ []
unfolding name_by
no_name [] = refl
no_name (token ∷ tokens) = refl

no_names : (parts : List (List Token)) → flat_map names_by (map plain parts) ≡ []
no_names [] = refl
no_names (part ∷ parts) = rw (no_name part) (no_names parts)

line_few : (line : List Token) → 4 * length (flat_map names_by (statements_on line)) ≤ length line
unfolding statements_on
line_few line =
    elim (cases_Bool (begins_with_hash line)) [
      | inl is ↦ rw is (let few = statement_few true line in omega (arith, few, length-append (option_to_list (name_by true line)) []))
      | inr other ↦ rw (other, no_names) (omega arith)
    ]

-- the elements of all lists
total : {A : Type 0} → List (List A) → ℕ
total [] = 0
total (list ∷ lists) = length list + total lists

lines_few : (lines : List (List Token)) → 4 * length (flat_map names_by (flat_map statements_on lines)) ≤ total lines
unfolding total
lines_few [] = omega arith
lines_few (line ∷ lines) =
    let one = line_few line in
    let others = lines_few lines in
    rw (flat_map-append names_by (statements_on line) (flat_map statements_on lines))
    (omega (arith, one, others, length-append (flat_map names_by (statements_on line)) (flat_map names_by (flat_map statements_on lines))))

onto_total : {A : Type 0} (first : A) (lists : List (List A)) → total (onto_first first lists) ≡ 1 + total lists
unfolding total
onto_total first [] = refl
onto_total first (list ∷ lists) = omega arith

split_total : {A : Type 0} (ends : A → Bool) (list : List A) → total (split_inclusive ends list) ≡ length list
unfolding split_inclusive total
split_total ends [] = refl
split_total ends (first ∷ rest) =
    let others = split_total ends rest in
    elim (cases_Bool (ends first)) [
      | inl is ↦ rw is (omega (arith, others))
      | inr goes ↦ rw goes (omega (arith, others, onto_total first (split_inclusive ends rest)))
    ]

file_few : (tokens : List Token) → 4 * length (names_in tokens) ≤ length tokens
unfolding statements_of
file_few tokens =
    let few = lines_few (split_inclusive is_newline tokens) in
    omega (arith, few, split_total is_newline tokens)

files_few : (files : List Tokens) → 4 * length (flat_map (λ tokens. names_in tokens.list) files) ≤ token_count files
files_few [] = omega arith
files_few (tokens ∷ files) =
    let one = file_few tokens.list in
    let others = files_few files in
    omega (arith, one, others, length-append (names_in tokens.list) (flat_map (λ tokens. names_in tokens.list) files), sum_by-cons (λ tokens. length tokens.list) tokens files)

with_few : (names : List (List ℕ)) (name : List ℕ) → length (with_name names name) ≤ 1 + length names
unfolding with_name
with_few names name =
    elim (cases_Bool (is_among name names)) [
      | inl there ↦ rw there (omega arith)
      | inr new ↦ rw new (omega (arith, length-append names (name ∷ [])))
    ]

distinct_few : (names more : List (List ℕ)) → length (distinct_behind names more) ≤ length names + length more
unfolding distinct_behind
distinct_few names [] = omega arith
distinct_few names (name ∷ more) =
    let one = with_few names name in
    let others = distinct_few (with_name names name) more in
    omega (arith, one, others)

pub line_names_few : (sources : List Tokens) (includes : List (List ℕ × Tokens))
    → 4 * length (line_names_of sources includes) ≤ token_count (sources ++ included_tokens includes)
unfolding line_names_of
line_names_few sources includes =
    let distinct = distinct_few [] (flat_map (λ tokens. names_in tokens.list) (sources ++ included_tokens includes)) in
    let all = files_few (sources ++ included_tokens includes) in
    omega (arith, distinct, all)

-- a name that wasn't there
pub keeps_more : (names : List (List ℕ)) (name : List ℕ) (before after : List (List ℕ))
    → AddsName before after name → Keeps names before → Keeps (names ++ name ∷ []) after
keeps_more names name before after adds keeps =
    λ other. adds other
    ∙ ap (λ there. there || bytes_eq name other) (keeps other)
    ∙ ap (λ here. is_among other names || here) (sym (or-false (bytes_eq name other)))
    ∙ sym (list_any-append (λ one. bytes_eq one other) names (name ∷ []))

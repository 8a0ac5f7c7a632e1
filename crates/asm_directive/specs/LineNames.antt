-- The files that `#line` names.
use Rattle.std.specs.Prelude.{ℕ, Bool, true, false, List, [], ◌∷◌, ◌++◌, map, length, Option, Some, None, option_to_list, bytes_eq, if◌then◌else◌}
use Rattle.std.specs.List.{flat_map, list_any, before_first, sum_by}
use Rattle.asm_lex.specs.declared.token.Token.{Token}
use Rattle.asm_lex.specs.declared.token.Tokens.{Tokens}
use Rattle.asm_directive.specs.declared.keyword.Keyword.{Keyword}
use Rattle.asm_directive.specs.declared.keyword.Keyword.TheVariants as keywords
use Rattle.asm_directive.specs.Tokens.{is_newline}
use Rattle.asm_directive.specs.Statements.{Statement, statements_of, rest_of}
use Rattle.asm_directive.specs.Directives.{keyword_of, LineMark, mark_in}

abbrev pub name_of : Option LineMark → Option (List ℕ)
name_of None = None
name_of (Some mark) = Some mark.name

abbrev pub name_said : Keyword → List Token → Option (List ℕ)
name_said keywords.Line words = name_of (mark_in words)
name_said _ words = None

-- the file that a directive names, if it is a `#line` of known form
abbrev pub name_in_words : List Token → Option (List ℕ)
name_in_words words = name_said (keyword_of words) (rest_of words)

unfoldable pub name_by : Bool → List Token → Option (List ℕ)
name_by is_directive [] = None
name_by true (first ∷ tokens) = name_in_words (before_first is_newline tokens)
name_by false (first ∷ tokens) = None

abbrev pub names_by : Statement → List (List ℕ)
names_by statement = option_to_list (name_by statement.directive statement.tokens)

-- those of the statements of a file, also of branches that aren't taken
abbrev pub names_in : List Token → List (List ℕ)
names_in tokens = flat_map names_by (statements_of tokens)

abbrev pub is_among : List ℕ → List (List ℕ) → Bool
is_among name names = list_any (λ other. bytes_eq other name) names

unfoldable pub with_name : List (List ℕ) → List ℕ → List (List ℕ)
with_name names name = if is_among name names then names else names ++ name ∷ []

-- each of these names once, at its first place, behind others
unfoldable pub distinct_behind : List (List ℕ) → List (List ℕ) → List (List ℕ)
distinct_behind names [] = names
distinct_behind names (name ∷ more) = distinct_behind (with_name names name) more

-- the tokens of several files
abbrev pub token_count : List Tokens → ℕ
token_count all = sum_by (λ tokens. length tokens.list) all

-- the files that sources may include, without their names
abbrev pub included_tokens : List (List ℕ × Tokens) → List Tokens
included_tokens includes = map (λ include. include.1) includes

-- the distinct names in `#line` directives, of sources first and of includes after them
unfoldable pub line_names_of : List Tokens → List (List ℕ × Tokens) → List (List ℕ)
line_names_of sources includes =
    distinct_behind [] (flat_map (λ tokens. names_in tokens.list) (sources ++ included_tokens includes))

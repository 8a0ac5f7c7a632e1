-- `expand LIST`: every statement of the sources after macros, inclusions and conditions.
use Rattle.std.specs.Prelude.{ℕ, Bool, true, false, List, [], ◌∷◌, ◌++◌, codes, map, if◌then◌else◌}
use Rattle.std.specs.List.{concat}
use Rattle.asm_lex.specs.declared.token.Kind.{Kind}
use Rattle.asm_lex.specs.declared.token.Kind.TheVariants.{Word, Number, Text, Sign, End}
use Rattle.asm_lex.specs.declared.token.Token.{Token}
use Rattle.asm_lex.specs.declared.token.Tokens.{Tokens}
use Rattle.goasm_text.specs.Lines.{newline, place_text}
use Rattle.goasm_run.specs.Plan.{Plan, Tell}
use Rattle.goasm_run.specs.Builds.{Judge, build_plan}

abbrev pub is_end : Kind → Bool
is_end Word = false
is_end (Number value) = false
is_end Text = false
is_end Sign = false
is_end End = true

-- the tokens up to the first end of a statement
unfoldable pub first_statement : List Token → List Token
first_statement [] = []
first_statement (token ∷ tokens) = if is_end token.kind then [] else token ∷ first_statement tokens

-- what stands behind the first end, cut at each further one
unfoldable pub later_statements : List Token → List (List Token)
later_statements [] = []
later_statements (token ∷ tokens) =
    if is_end token.kind then first_statement tokens ∷ later_statements tokens else later_statements tokens

-- tokens are cut into statements at their ends
abbrev pub statements_of : List Token → List (List Token)
statements_of tokens = first_statement tokens ∷ later_statements tokens

-- each token behind a space
unfoldable pub tokens_text : List Token → List ℕ
tokens_text tokens = concat (map (λ token. codes " " ++ token.text) tokens)

-- the line of a statement that has a token besides its end: the place of the first one, and the tokens
abbrev pub statement_text : List (List ℕ) → List Token → List ℕ
statement_text files [] = []
statement_text files (token ∷ tokens) = place_text files token.pos ++ tokens_text (token ∷ tokens) ++ newline

-- the lines of all statements of these tokens
unfoldable pub list_text : List (List ℕ) → List Token → List ℕ
list_text files tokens = concat (map (statement_text files) (statements_of tokens))

unfoldable pub expanded_text : List (List ℕ) → List Tokens → List ℕ
expanded_text files all = concat (map (λ tokens. list_text files tokens.list) all)

abbrev pub expand_judge : Judge
expand_judge files all = Tell (expanded_text files all)

abbrev pub expand_plan : List ℕ → Plan
expand_plan list = build_plan expand_judge list

-- The forms of directives.
use Rattle.std.specs.Prelude.{ℕ, Bool, true, List, [], ◌∷◌, ◌&&◌, not, length, codes, bytes_eq, Option, Some, None, if◌then◌else◌}
use Rattle.std.specs.List.{list_any, position_from}
use Rattle.std.specs.Option.{option_map}
use Rattle.asm_lex.specs.declared.token.Kind.{Kind}
use Rattle.asm_lex.specs.declared.token.Kind.TheVariants as kinds
use Rattle.asm_lex.specs.declared.token.Token.{Token}
use Rattle.asm_directive.specs.declared.keyword.Keyword.{Keyword}
use Rattle.asm_directive.specs.declared.keyword.Keyword.TheVariants.{Define, Undef, Include, Ifdef, Ifndef, Else, Endif, Line, Other}
use Rattle.asm_directive.specs.Names.{Names}
use Rattle.asm_directive.specs.Tokens.{is_word, is_text, is_sign, says, opening, closing, comma}
use Rattle.asm_directive.specs.Texts.{value_of}

-- the directive that a word names
unfoldable pub keyword : Token → Keyword
keyword word =
    if says (codes "define") word then Define
    else (if says (codes "undef") word then Undef
    else (if says (codes "include") word then Include
    else (if says (codes "ifdef") word then Ifdef
    else (if says (codes "ifndef") word then Ifndef
    else (if says (codes "else") word then Else
    else (if says (codes "endif") word then Endif
    else (if says (codes "line") word then Line
    else Other)))))))

abbrev pub keyword_of : List Token → Keyword
keyword_of [] = Other
keyword_of (word ∷ words) = keyword word

-- one word and no more
unfoldable pub name_in : List Token → Option (List ℕ)
name_in [] = None
name_in (token ∷ []) = if is_word token then Some token.text else None
name_in (token ∷ next ∷ tokens) = None

-- one text and no more
unfoldable pub quoted_in : List Token → Option (List ℕ)
quoted_in [] = None
quoted_in (token ∷ []) = if is_text token then Some (value_of token) else None
quoted_in (token ∷ next ∷ tokens) = None

pub record LineMark : Type 0 where
  pub number : ℕ
  pub name : List ℕ

abbrev pub mark_of : Kind → Token → Option LineMark
mark_of (kinds.Number value) token = if is_text token then Some (record { number = value; name = value_of token }) else None
mark_of kinds.Word token = None
mark_of kinds.Text token = None
mark_of kinds.Sign token = None
mark_of kinds.End token = None

-- a number, a text and no more
unfoldable pub mark_in : List Token → Option LineMark
mark_in [] = None
mark_in (number ∷ []) = None
mark_in (number ∷ token ∷ []) = mark_of number.kind token
mark_in (number ∷ token ∷ next ∷ tokens) = None

-- the parameters of a macro: how many there are, and which of them a name is, counted from 0
pub record Parameters : Type 0 where
  pub count : ℕ
  pub place : Names ℕ

-- parameters, and the body behind them
pub record Head : Type 0 where
  pub parameters : Parameters
  pub body : List Token

-- words, and what stands behind the closing bracket
pub record Words : Type 0 where
  pub names : List (List ℕ)
  pub rest : List Token

abbrev pub with_word : List ℕ → Words → Words
with_word name words = record { names = name ∷ words.names; rest = words.rest }

-- words with commas between them, up to a closing bracket: one and the bracket, or one, a comma and more of them
unfoldable pub words_in : List Token → Option Words
words_in [] = None
words_in (word ∷ []) = None
words_in (word ∷ next ∷ tokens) =
    if is_word word
    then (if is_sign closing next then Some (record { names = word.text ∷ []; rest = tokens })
    else (if is_sign comma next then option_map (with_word word.text) (words_in tokens) else None))
    else None

-- no two names are the same
abbrev pub are_distinct : List (List ℕ) → Bool
are_distinct [] = true
are_distinct (name ∷ names) = not (list_any (λ other. bytes_eq name other) names) && are_distinct names

abbrev pub parameters_named : List (List ℕ) → Parameters
parameters_named names = record { count = length names; place = λ name. position_from (λ other. bytes_eq other name) 0 names }

abbrev pub head_by : Option Words → Option Head
head_by None = None
head_by (Some words) =
    if are_distinct words.names then Some (record { parameters = parameters_named words.names; body = words.rest }) else None

-- parameters behind the opening bracket, of which there may be none
unfoldable pub head_in : List Token → Option Head
head_in [] = None
head_in (token ∷ tokens) =
    if is_sign closing token
    then Some (record { parameters = parameters_named []; body = tokens })
    else head_by (words_in (token ∷ tokens))

-- what a `#define` says
pub record Named : Type 0 where
  pub name : List ℕ
  -- of a macro that takes arguments
  pub parameters : Option Parameters
  pub body : List Token

abbrev pub with_head : List ℕ → Option Head → Option Named
with_head name None = None
with_head name (Some head) =
    Some (record { name = name; parameters = Some head.parameters; body = head.body })

abbrev pub without_head : List ℕ → List Token → Named
without_head name body = record { name = name; parameters = None; body = body }

-- a bracket that stands directly behind the name opens parameters
unfoldable pub definition_behind : List ℕ → List Token → Option Named
definition_behind name [] = Some (without_head name [])
definition_behind name (token ∷ tokens) =
    if is_sign opening token && token.glued then with_head name (head_in tokens)
    else Some (without_head name (token ∷ tokens))

unfoldable pub definition_in : List Token → Option Named
definition_in [] = None
definition_in (name ∷ tokens) = if is_word name then definition_behind name.text tokens else None

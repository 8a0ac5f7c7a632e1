-- Expressions: numbers with operators, and brackets that nest at most 100 deep.
--
--     sum      product { ("+" | "-" | "|" | "^") product }
--     product  factor { ("*" | "/" | "%" | "<<" | ">>" | "&") factor }
--     factor   { "+" | "-" | "~" } primary
--     primary  number | "(" sum ")"
use Rattle.std.specs.Prelude.{ℕ, zero, suc, Bool, false, List, reverse, fold, take, drop, codes, Option, Some, None, if◌then◌else◌}
use Rattle.std.specs.List.{prefix_len}
use Rattle.asm_lex.specs.declared.token.Token.{Token}
use Rattle.asm_grammar.specs.declared.cause.Cause.TheVariants.{ZeroDivisor}
use Rattle.asm_grammar.specs.declared.operator.Operator.{Operator}
use Rattle.asm_grammar.specs.declared.operator.Group.{Group}
use Rattle.asm_grammar.specs.declared.operator.Group.TheVariants.{Sum, Product}
use Rattle.asm_grammar.specs.Operators.{applied, prefixed, is_prefix}
use Rattle.asm_grammar.specs.Tokens.{sign_of}
use Rattle.asm_grammar.specs.Reader.{Reader, ◌>>=◌, ◌>>◌, pure, refuse, note, eat, expect, number, eat_operator, going_on, behind}

-- the value, or any where a divisor is 0
abbrev pub or_noted : Option ℕ → Reader ℕ
or_noted (Some value) = pure value
or_noted None = note ZeroDivisor >> pure 0

unfoldable pub operation : Reader ℕ → ℕ → Operator → Reader ℕ
operation operand left operator = do
  right ← operand
  or_noted (applied operator left right)

abbrev pub is_prefix_in : Option (List ℕ) → Bool
is_prefix_in None = false
is_prefix_in (Some sign) = is_prefix sign

abbrev pub is_prefix_token : Token → Bool
is_prefix_token token = is_prefix_in (sign_of token)

-- the signs before a value
unfoldable pub prefixes : Reader (List Token)
prefixes = λ at. let count = prefix_len is_prefix_token at.rest in Some (take count at.rest, behind at (drop count at.rest))

abbrev pub prefixed_by : ℕ → Token → ℕ
prefixed_by value token = prefixed value token.text

unfoldable pub primary : Reader ℕ → Reader ℕ
primary inner = do
  is_open ← eat (codes "(")
  if is_open then (do value ← inner; expect (codes ")"); pure value) else number

-- the sign next to the value counts first
unfoldable pub factor : Reader ℕ → Reader ℕ
factor inner = do
  signs ← prefixes
  value ← primary inner
  pure (fold prefixed_by value (reverse signs))

-- from left to right
unfoldable pub chain : Group → Reader ℕ → Reader ℕ
chain group operand = do
  first ← operand
  going_on (eat_operator group) (operation operand) first

abbrev pub product : Reader ℕ → Reader ℕ
product inner = chain Product (factor inner)

abbrev pub sum : Reader ℕ → Reader ℕ
sum inner = chain Sum (product inner)

-- what may stand in brackets where so many more may nest
abbrev pub bracketed : ℕ → Reader ℕ
bracketed zero = refuse
bracketed (suc depth) = sum (bracketed depth)

abbrev pub most_nested : ℕ
most_nested = 100

unfoldable pub expression : Reader ℕ
expression = sum (bracketed most_nested)

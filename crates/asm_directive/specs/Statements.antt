-- The statements of a file. A line that begins with `#` is a directive; every other line is cut at its ends.
use Rattle.std.specs.Prelude.{Bool, true, false, List, [], ◌∷◌, map, if◌then◌else◌}
use Rattle.std.specs.List.{flat_map, onto_first}
use Rattle.asm_lex.specs.declared.token.Token.{Token}
use Rattle.goasm_base.specs.Ascii.{number_sign}
use Rattle.asm_directive.specs.Tokens.{is_end, is_newline, is_sign}

pub record Statement : Type 0 where
  pub directive : Bool
  -- its tokens with its end
  pub tokens : List Token

-- the parts of a list, each up to an element that passes and with it; behind the last one a part of all that is left
unfoldable pub split_inclusive : {A : Type 0} → (A → Bool) → List A → List (List A)
split_inclusive ends [] = []
split_inclusive ends (first ∷ rest) =
    if ends first then (first ∷ []) ∷ split_inclusive ends rest else onto_first first (split_inclusive ends rest)

abbrev pub begins_with_hash : List Token → Bool
begins_with_hash [] = false
begins_with_hash (token ∷ tokens) = is_sign number_sign token

abbrev pub directive : List Token → Statement
directive tokens = record { directive = true; tokens = tokens }

abbrev pub plain : List Token → Statement
plain tokens = record { directive = false; tokens = tokens }

unfoldable pub statements_on : List Token → List Statement
statements_on line = if begins_with_hash line then directive line ∷ [] else map plain (split_inclusive is_end line)

unfoldable pub statements_of : List Token → List Statement
statements_of tokens = flat_map statements_on (split_inclusive is_newline tokens)

-- the tokens behind the first
abbrev pub rest_of : List Token → List Token
rest_of [] = []
rest_of (token ∷ tokens) = tokens

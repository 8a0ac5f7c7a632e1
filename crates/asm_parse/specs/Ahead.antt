-- What stands ahead of a label or a LOCK: the first statement that belongs to the function, by its first word alone.
use Rattle.std.specs.Prelude.{ℕ, ◌||◌, ◌&&◌, List, [], ◌∷◌, ◌++◌, map, bytes_eq, codes, Option, Some, None, if◌then◌else◌}
use Rattle.asm_lex.specs.declared.token.Token.{Token}
use Rattle.asm_grammar.specs.Tokens.{word_of, is_word, is_sign}
use Rattle.asm_parse.specs.declared.ahead.Opening.{Opening}
use Rattle.asm_parse.specs.declared.ahead.Opening.TheVariants.{Aside, Text, Lock, Code}
use Rattle.asm_parse.specs.declared.ahead.Outlook.{Outlook}
use Rattle.asm_parse.specs.declared.unread.Unread.{Unread}

-- statements, without where they lie in memory
abbrev pub seen : List Unread → List (List Token)
seen statements = map (λ statement. statement.tokens.now) statements

-- what stands behind the labels of a statement
unfoldable pub after_labels : List Token → List Token
after_labels [] = []
after_labels (token ∷ []) = token ∷ []
after_labels (token ∷ next ∷ tokens) =
    if is_word token && is_sign (codes ":") next then after_labels tokens else token ∷ next ∷ tokens

abbrev pub opening_at : List ℕ → Opening
opening_at word =
    if bytes_eq word (codes "TEXT") then Text
    else (if bytes_eq word (codes "DATA") || bytes_eq word (codes "GLOBL") then Aside
    else (if bytes_eq word (codes "LOCK") then Lock
    else Code))

abbrev pub opening_by : Option (List ℕ) → Opening
opening_by None = Code
opening_by (Some word) = opening_at word

abbrev pub opening_in : List Token → Opening
opening_in [] = Aside
opening_in (token ∷ tokens) = opening_by (word_of token)

-- what a statement begins with, behind its labels
unfoldable pub opening_of : List Token → Opening
opening_of tokens = opening_in (after_labels tokens)

abbrev pub before : Opening → Opening → Opening
before Aside behind = behind
before opening behind = opening

-- the first of statements that isn't aside. The end of the file ends a function as a `TEXT` does
abbrev pub ahead_of : List (List Token) → Opening
ahead_of [] = Text
ahead_of (statement ∷ others) = before (opening_of statement) (ahead_of others)

abbrev pub outlook_of : List Token → List (List Token) → Outlook
outlook_of statement others = record { here = ahead_of (statement ∷ others); behind = ahead_of others }

-- the outlooks of statements, of the last one first
unfoldable pub outlooks_back : List (List Token) → List Outlook
outlooks_back [] = []
outlooks_back (statement ∷ others) = outlooks_back others ++ outlook_of statement others ∷ []

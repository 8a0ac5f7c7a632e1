-- How tokens are written one after the other.
use Rattle.std.specs.Prelude.{ℕ, Bool, List, [], ◌++◌, codes, if◌then◌else◌}
use Rattle.asm_lex.specs.declared.token.Token.{Token}
use Rattle.goasm_text.specs.Lines.{newline, place_text}
use Rattle.goasm_run.specs.Expand.{is_end}

-- what a token adds, where a statement has begun or not: the end of its line, or behind the place of a first token a space
-- and the token
abbrev pub token_text : List (List ℕ) → Bool → Token → List ℕ
token_text files begun token =
    if is_end token.kind then (if begun then newline else [])
    else (if begun then [] else place_text files token.pos) ++ codes " " ++ token.text

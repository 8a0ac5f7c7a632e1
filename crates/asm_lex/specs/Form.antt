-- The form of tokens, wherever they come from.
use Rattle.std.specs.Prelude.{◌≡◌, ℕ, Bool, List, [], ◌∷◌, ◌==◌, ◌&&◌, ◌||◌, length, Some, IsTrue, All}
use Rattle.asm_lex.specs.declared.token.Kind.{Kind}
use Rattle.asm_lex.specs.declared.token.Kind.TheVariants.{Word, Number, Text, Sign, End}
use Rattle.asm_lex.specs.declared.token.Token.{Token}
use Rattle.asm_lex.specs.declared.token.Tokens.{Tokens}
use Rattle.asm_lex.specs.Characters.{newline, semicolon, first}
use Rattle.asm_lex.specs.Words.{is_word}
use Rattle.asm_lex.specs.Numbers.{number_value}
use Rattle.asm_lex.specs.Texts.{is_text}
use Rattle.asm_lex.specs.Signs.{is_sign}

abbrev pub is_end : List ℕ → Bool
is_end text = length text == 1 && (first text == newline || first text == semicolon)

-- the text has the form of the kind, and a number's value is that of its text
abbrev pub HasForm : Kind → List ℕ → Type 0
HasForm Word text = IsTrue (is_word text)
HasForm (Number value) text = number_value text ≡ Some value
HasForm Text text = IsTrue (is_text text)
HasForm Sign text = IsTrue (is_sign text)
HasForm End text = IsTrue (is_end text)

-- the last token, where there is one, is an end
abbrev pub EndsWithEnd : List Token → Type 0
EndsWithEnd [] = Unit {0}
EndsWithEnd (token ∷ []) = token.kind ≡ End
EndsWithEnd (token ∷ next ∷ tokens) = EndsWithEnd (next ∷ tokens)

-- tokens as they may be handed on
pub record AreTokens (tokens : Tokens) : Type 0 where
  pub forms : All (λ token. HasForm token.kind token.text) tokens.list
  pub ended : EndsWithEnd tokens.list

-- Kinds of tokens.
use Rattle.std.specs.Prelude.{ℕ, Bool, true, false, List, [], ◌∷◌, ◌&&◌, bytes_eq}
use Rattle.asm_lex.specs.declared.token.Kind.{Kind}
use Rattle.asm_lex.specs.declared.token.Kind.TheVariants.{Word, Text, Sign, End}
use Rattle.asm_lex.specs.declared.token.Token.{Token}
use Rattle.goasm_base.specs.Ascii.{newline}

abbrev pub is_word_kind : Kind → Bool
is_word_kind Word = true
is_word_kind _ = false

abbrev pub is_text_kind : Kind → Bool
is_text_kind Text = true
is_text_kind _ = false

abbrev pub is_sign_kind : Kind → Bool
is_sign_kind Sign = true
is_sign_kind _ = false

abbrev pub is_end_kind : Kind → Bool
is_end_kind End = true
is_end_kind _ = false

unfoldable pub is_word : Token → Bool
is_word token = is_word_kind token.kind

unfoldable pub is_text : Token → Bool
is_text token = is_text_kind token.kind

-- the end of a statement
unfoldable pub is_end : Token → Bool
is_end token = is_end_kind token.kind

-- the end of a line, or of the file
unfoldable pub is_newline : Token → Bool
is_newline token = is_end_kind token.kind && bytes_eq token.text (newline ∷ [])

-- the sign of this one character
unfoldable pub is_sign : ℕ → Token → Bool
is_sign character token = is_sign_kind token.kind && bytes_eq token.text (character ∷ [])

-- this word
unfoldable pub says : List ℕ → Token → Bool
says word token = is_word_kind token.kind && bytes_eq token.text word

abbrev pub opening : ℕ
opening = 40

abbrev pub closing : ℕ
closing = 41

abbrev pub comma : ℕ
comma = 44

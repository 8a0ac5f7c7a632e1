-- What a token is, as the grammar asks it.
use Rattle.std.specs.Prelude.{ℕ, Bool, true, false, List, bytes_eq, Option, Some, None, is_some}
use Rattle.asm_lex.specs.declared.token.Token.{Token}
use Rattle.asm_lex.specs.declared.token.Kind.{Kind}
use Rattle.asm_lex.specs.declared.token.Kind.TheVariants.{Word, Number, Text, Sign, End}

abbrev pub is_end_kind : Kind → Bool
is_end_kind End = true
is_end_kind _ = false

-- the token closes a statement
abbrev pub is_end : Token → Bool
is_end token = is_end_kind token.kind

abbrev pub word_in : Kind → List ℕ → Option (List ℕ)
word_in Word text = Some text
word_in _ text = None

abbrev pub word_of : Token → Option (List ℕ)
word_of token = word_in token.kind token.text

abbrev pub sign_in : Kind → List ℕ → Option (List ℕ)
sign_in Sign text = Some text
sign_in _ text = None

abbrev pub sign_of : Token → Option (List ℕ)
sign_of token = sign_in token.kind token.text

abbrev pub text_in : Kind → List ℕ → Option (List ℕ)
text_in Text text = Some text
text_in _ text = None

abbrev pub text_of : Token → Option (List ℕ)
text_of token = text_in token.kind token.text

abbrev pub number_in : Kind → Option ℕ
number_in (Number value) = Some value
number_in _ = None

abbrev pub number_of : Token → Option ℕ
number_of token = number_in token.kind

abbrev pub equals : List ℕ → Option (List ℕ) → Bool
equals text None = false
equals text (Some other) = bytes_eq other text

-- the token is this sign
abbrev pub is_sign : List ℕ → Token → Bool
is_sign sign token = equals sign (sign_of token)

abbrev pub is_word : Token → Bool
is_word token = is_some (word_of token)

abbrev pub is_text : Token → Bool
is_text token = is_some (text_of token)

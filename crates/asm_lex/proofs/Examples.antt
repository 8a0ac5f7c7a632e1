-- The definitions on small sources.
use Rattle.std.proofs.Common.{◌≡◌, ℕ, Bool, true, false, List, [], ◌∷◌, Option, Some, None, refl}
use Rattle.goasm_base.specs.Numbers.{number_of}
use Rattle.asm_lex.specs.declared.token.Kind.{Kind}
use Rattle.asm_lex.specs.declared.token.Kind.TheVariants.{Word, Number, Text, Sign, End}
use Rattle.asm_lex.specs.declared.token.Token.{Token}
use Rattle.asm_lex.specs.declared.fault.Cause.{Cause}
use Rattle.asm_lex.specs.declared.fault.Cause.TheVariants.{Open, Form, Stray}
use Rattle.asm_lex.specs.declared.fault.Fault.{Fault}
use Rattle.asm_lex.specs.Lines.{line_after}
use Rattle.asm_lex.specs.Words.{char_len, run_end}
use Rattle.asm_lex.specs.Numbers.{number_value}
use Rattle.asm_lex.specs.Texts.{text_end, escape_len, are_escapes}
use Rattle.asm_lex.specs.Comments.{line_end, comment_end}
use Rattle.asm_lex.specs.Signs.{is_long_sign, is_short_sign, sign_len}
use Rattle.asm_lex.specs.Pieces.{comment_piece, text_piece, number_piece, word_piece, token_piece, piece_of}
use Rattle.asm_lex.specs.Cut.{cut_within, cut_of}
use Rattle.asm_lex.specs.Faults.{first_fault}

abbrev token : ℕ → Bool → Kind → List ℕ → Token
token line glued kind text = record { pos = record { file = 3; line = line }; glued = glued; kind = kind; text = text }

abbrev tokens : List ℕ → List Token
tokens bytes = (cut_of 3 bytes).tokens

abbrev fault : List ℕ → Option Fault
fault bytes = first_fault (cut_of 3 bytes).faults

abbrev at : ℕ → Cause → Option Fault
at line cause = Some (record { line = line; cause = cause })

-- a line that goes on
continued : tokens (65 ∷ 32 ∷ 92 ∷ 10 ∷ 66 ∷ [])
    ≡ token 1 false Word (65 ∷ []) ∷ token 2 false Word (66 ∷ []) ∷ token 2 true End (10 ∷ []) ∷ []
unfolding cut_of cut_within piece_of token_piece word_piece number_piece text_piece comment_piece sign_len is_long_sign is_short_sign line_end comment_end text_end escape_len are_escapes number_value number_of char_len run_end line_after
continued = refl

-- comments, in which a newline ends nothing
commented : tokens (65 ∷ 47 ∷ 42 ∷ 10 ∷ 42 ∷ 47 ∷ 194 ∷ 183 ∷ 49 ∷ 47 ∷ 47 ∷ 120 ∷ 10 ∷ [])
    ≡ token 1 false Word (65 ∷ []) ∷ token 2 false Word (194 ∷ 183 ∷ 49 ∷ []) ∷ token 2 false End (10 ∷ []) ∷ token 3 true End (10 ∷ []) ∷ []
unfolding cut_of cut_within piece_of token_piece word_piece number_piece text_piece comment_piece sign_len is_long_sign is_short_sign line_end comment_end text_end escape_len are_escapes number_value number_of char_len run_end line_after
commented = refl

-- numbers and signs
numbered : tokens (48 ∷ 120 ∷ 49 ∷ 102 ∷ 45 ∷ 48 ∷ 60 ∷ 62 ∷ 43 ∷ 59 ∷ [])
    ≡ token 1 false (Number 31) (48 ∷ 120 ∷ 49 ∷ 102 ∷ []) ∷ token 1 true Sign (45 ∷ []) ∷ token 1 true (Number 0) (48 ∷ []) ∷ token 1 true Sign (60 ∷ 62 ∷ []) ∷ token 1 true Sign (43 ∷ []) ∷ token 1 true End (59 ∷ []) ∷ token 1 true End (10 ∷ []) ∷ []
unfolding cut_of cut_within piece_of token_piece word_piece number_piece text_piece comment_piece sign_len is_long_sign is_short_sign line_end comment_end text_end escape_len are_escapes number_value number_of char_len run_end line_after
numbered = refl

-- a text with escapes
quoted : tokens (34 ∷ 92 ∷ 120 ∷ 52 ∷ 102 ∷ 92 ∷ 34 ∷ 34 ∷ [])
    ≡ token 1 false Text (34 ∷ 92 ∷ 120 ∷ 52 ∷ 102 ∷ 92 ∷ 34 ∷ 34 ∷ []) ∷ token 1 true End (10 ∷ []) ∷ []
unfolding cut_of cut_within piece_of token_piece word_piece number_piece text_piece comment_piece sign_len is_long_sign is_short_sign line_end comment_end text_end escape_len are_escapes number_value number_of char_len run_end line_after
quoted = refl

-- an empty source
empty : tokens []
    ≡ token 1 false End (10 ∷ []) ∷ []
unfolding cut_of cut_within piece_of token_piece word_piece number_piece text_piece comment_piece sign_len is_long_sign is_short_sign line_end comment_end text_end escape_len are_escapes number_value number_of char_len run_end line_after
empty = refl

-- nothing is refused
good : fault (77 ∷ 79 ∷ 86 ∷ 81 ∷ 32 ∷ 36 ∷ 49 ∷ 44 ∷ 32 ∷ 40 ∷ 65 ∷ 88 ∷ 41 ∷ 10 ∷ []) ≡ None
unfolding cut_of cut_within piece_of token_piece word_piece number_piece text_piece comment_piece sign_len is_long_sign is_short_sign line_end comment_end text_end escape_len are_escapes number_value number_of char_len run_end line_after
good = refl

-- the lowest number of a line
lowest : fault (39 ∷ 32 ∷ 48 ∷ 49 ∷ 32 ∷ 34 ∷ 10 ∷ []) ≡ at 1 Open
unfolding cut_of cut_within piece_of token_piece word_piece number_piece text_piece comment_piece sign_len is_long_sign is_short_sign line_end comment_end text_end escape_len are_escapes number_value number_of char_len run_end line_after
lowest = refl

-- the first line
earliest : fault (39 ∷ 10 ∷ 48 ∷ 49 ∷ 34 ∷ []) ≡ at 1 Stray
unfolding cut_of cut_within piece_of token_piece word_piece number_piece text_piece comment_piece sign_len is_long_sign is_short_sign line_end comment_end text_end escape_len are_escapes number_value number_of char_len run_end line_after
earliest = refl

-- an open comment counts at the line where it begins
open_comment : fault (10 ∷ 47 ∷ 42 ∷ 47 ∷ 10 ∷ 39 ∷ []) ≡ at 2 Open
unfolding cut_of cut_within piece_of token_piece word_piece number_piece text_piece comment_piece sign_len is_long_sign is_short_sign line_end comment_end text_end escape_len are_escapes number_value number_of char_len run_end line_after
open_comment = refl

-- a text ends on its line
open_text : fault (34 ∷ 97 ∷ 92 ∷ 10 ∷ 34 ∷ []) ≡ at 1 Open
unfolding cut_of cut_within piece_of token_piece word_piece number_piece text_piece comment_piece sign_len is_long_sign is_short_sign line_end comment_end text_end escape_len are_escapes number_value number_of char_len run_end line_after
open_text = refl

-- the quote closes the text, and the escape is short
short_escape : fault (34 ∷ 92 ∷ 120 ∷ 34 ∷ []) ≡ at 1 Form
unfolding cut_of cut_within piece_of token_piece word_piece number_piece text_piece comment_piece sign_len is_long_sign is_short_sign line_end comment_end text_end escape_len are_escapes number_value number_of char_len run_end line_after
short_escape = refl

-- no such escape
unknown_escape : fault (34 ∷ 92 ∷ 113 ∷ 34 ∷ []) ≡ at 1 Form
unfolding cut_of cut_within piece_of token_piece word_piece number_piece text_piece comment_piece sign_len is_long_sign is_short_sign line_end comment_end text_end escape_len are_escapes number_value number_of char_len run_end line_after
unknown_escape = refl

-- a leading zero
leading_zero : fault (48 ∷ 56 ∷ []) ≡ at 1 Form
unfolding cut_of cut_within piece_of token_piece word_piece number_piece text_piece comment_piece sign_len is_long_sign is_short_sign line_end comment_end text_end escape_len are_escapes number_value number_of char_len run_end line_after
leading_zero = refl

-- a number that goes on as a word
glued_word : fault (56 ∷ 97 ∷ []) ≡ at 1 Form
unfolding cut_of cut_within piece_of token_piece word_piece number_piece text_piece comment_piece sign_len is_long_sign is_short_sign line_end comment_end text_end escape_len are_escapes number_value number_of char_len run_end line_after
glued_word = refl

-- no digits
no_digits : fault (48 ∷ 120 ∷ []) ≡ at 1 Form
unfolding cut_of cut_within piece_of token_piece word_piece number_piece text_piece comment_piece sign_len is_long_sign is_short_sign line_end comment_end text_end escape_len are_escapes number_value number_of char_len run_end line_after
no_digits = refl

-- a backslash at the end of all
last_backslash : fault (92 ∷ []) ≡ at 1 Stray
unfolding cut_of cut_within piece_of token_piece word_piece number_piece text_piece comment_piece sign_len is_long_sign is_short_sign line_end comment_end text_end escape_len are_escapes number_value number_of char_len run_end line_after
last_backslash = refl

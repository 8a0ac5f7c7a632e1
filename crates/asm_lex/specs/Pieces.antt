-- What the bytes at a place begin with: white space or a comment, a token, or something that is refused. A source is
-- one row of such pieces.
use Rattle.std.specs.Prelude.{ℕ, Bool, List, ◌+◌, ◌==◌, ◌||◌, nat_lt, length, take, Option, Some, None, if◌then◌else◌}
use Rattle.asm_lex.specs.declared.token.Kind.TheVariants as kinds
use Rattle.asm_lex.specs.declared.piece.Piece.{Piece}
use Rattle.asm_lex.specs.declared.piece.Class.{Class}
use Rattle.asm_lex.specs.declared.piece.Class.TheVariants.{Gap, Part, Wrong}
use Rattle.asm_lex.specs.declared.fault.Cause.TheVariants.{Open, Form, Stray}
use Rattle.asm_lex.specs.Characters.{newline, quote, star, slash, semicolon, backslash, is_space, is_ascii_digit, first, begins}
use Rattle.asm_lex.specs.Words.{run_len}
use Rattle.asm_lex.specs.Numbers.{number_value}
use Rattle.asm_lex.specs.Texts.{closing, are_escapes, inside}
use Rattle.asm_lex.specs.Comments.{line_len, comment_closing}
use Rattle.asm_lex.specs.Signs.{sign_len}

abbrev pub piece : Class → ℕ → Piece
piece class len = record { class = class; len = len }

-- a comment that is open reaches to the end of all
abbrev pub comment_piece_of : List ℕ → Option ℕ → Piece
comment_piece_of bytes (Some end) = piece Gap (end + 2)
comment_piece_of bytes None = piece (Wrong Open) (length bytes)

unfoldable pub comment_piece : List ℕ → Piece
comment_piece bytes = comment_piece_of bytes (comment_closing bytes)

-- a text is refused where an escape in it has no known form
abbrev pub text_class : Bool → Class
text_class known = if known then Part kinds.Text else Wrong Form

-- a text that is open reaches to the end of its line
abbrev pub text_piece_of : List ℕ → Option ℕ → Piece
text_piece_of bytes (Some end) = piece (text_class (are_escapes 0 (inside end bytes))) (end + 1)
text_piece_of bytes None = piece (Wrong Open) (line_len bytes)

unfoldable pub text_piece : List ℕ → Piece
text_piece bytes = text_piece_of bytes (closing bytes)

abbrev pub number_piece_of : ℕ → Option ℕ → Piece
number_piece_of len (Some value) = piece (Part (kinds.Number value)) len
number_piece_of len None = piece (Wrong Form) len

-- a number reaches as far as characters that can stand in a word
unfoldable pub number_piece : List ℕ → Piece
number_piece bytes = number_piece_of (run_len bytes) (number_value (take (run_len bytes) bytes))

unfoldable pub word_piece : List ℕ → Piece
word_piece bytes =
    if nat_lt 0 (run_len bytes) then piece (Part kinds.Word) (run_len bytes)
    else (if nat_lt 0 (sign_len bytes) then piece (Part kinds.Sign) (sign_len bytes)
    else piece (Wrong Stray) 1)

-- where neither white space nor a comment stands
unfoldable pub token_piece : List ℕ → Piece
token_piece bytes =
    if first bytes == newline || first bytes == semicolon then piece (Part kinds.End) 1
    else (if first bytes == quote then text_piece bytes
    else (if is_ascii_digit (first bytes) then number_piece bytes
    else word_piece bytes))

unfoldable pub piece_of : List ℕ → Piece
piece_of bytes =
    if is_space (first bytes) then piece Gap 1
    else (if begins backslash newline bytes then piece Gap 2
    else (if begins slash slash bytes then piece Gap (line_len bytes)
    else (if begins slash star bytes then comment_piece bytes
    else token_piece bytes)))

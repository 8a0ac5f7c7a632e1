-- A source, cut into its pieces: the tokens, and the places that are refused.
use Rattle.std.specs.Prelude.{ℕ, zero, suc, Bool, true, false, List, [], ◌∷◌, ◌++◌, ◌==◌, length, take, drop, if◌then◌else◌}
use Rattle.asm_lex.specs.declared.token.Kind.{Kind}
use Rattle.asm_lex.specs.declared.token.Kind.TheVariants.{End}
use Rattle.asm_lex.specs.declared.token.Token.{Token}
use Rattle.asm_lex.specs.declared.token.Tokens.{Tokens}
use Rattle.asm_lex.specs.declared.piece.Piece.{Piece}
use Rattle.asm_lex.specs.declared.piece.Class.{Class}
use Rattle.asm_lex.specs.declared.piece.Class.TheVariants.{Gap, Part, Wrong}
use Rattle.asm_lex.specs.declared.fault.Fault.{Fault}
use Rattle.asm_lex.specs.Characters.{newline}
use Rattle.asm_lex.specs.Lines.{line_after}
use Rattle.asm_lex.specs.Pieces.{piece_of}

-- a place in a source: its line, whether a token ends directly before it, and the bytes from there on
pub record Point : Type 0 where
  pub line : ℕ
  pub glued : Bool
  pub rest : List ℕ

abbrev pub is_part : Class → Bool
is_part Gap = false
is_part (Part kind) = true
is_part (Wrong cause) = false

-- the place behind a piece
abbrev pub behind : Point → Piece → Point
behind point piece = record {
  line = line_after point.line (take piece.len point.rest);
  glued = is_part piece.class;
  rest = drop piece.len point.rest;
}

abbrev pub token_at : ℕ → Point → Kind → List ℕ → Token
token_at file point kind text = record {
  pos = record { file = file; line = point.line };
  glued = point.glued;
  kind = kind;
  text = text;
}

pub record Cut : Type 0 where
  pub tokens : List Token
  pub faults : List Fault

-- the end of a file counts as one newline more
abbrev pub end_at : ℕ → Point → Cut
end_at file point = record { tokens = token_at file point End (newline ∷ []) ∷ []; faults = [] }

-- the token that a piece with this text is, if it is one
abbrev pub tokens_at : ℕ → Point → Class → List ℕ → List Token
tokens_at file point Gap text = []
tokens_at file point (Part kind) text = token_at file point kind text ∷ []
tokens_at file point (Wrong cause) text = []

abbrev pub faults_at : Point → Class → List Fault
faults_at point Gap = []
faults_at point (Part kind) = []
faults_at point (Wrong cause) = record { line = point.line; cause = cause } ∷ []

-- a piece before the cut of what stands behind it
abbrev pub with_piece : ℕ → Point → Piece → Cut → Cut
with_piece file point piece others = record {
  tokens = tokens_at file point piece.class (take piece.len point.rest) ++ others.tokens;
  faults = faults_at point piece.class ++ others.faults;
}

-- the cut from a place on, of which there are at most this many pieces
unfoldable pub cut_within : ℕ → ℕ → Point → Cut
cut_within zero file point = end_at file point
cut_within (suc most) file point =
    if length point.rest == 0 then end_at file point
    else with_piece file point (piece_of point.rest) (cut_within most file (behind point (piece_of point.rest)))

-- the place before the first piece
abbrev pub start : List ℕ → Point
start bytes = record { line = 1; glued = false; rest = bytes }

-- the cut of a source; each piece takes a byte at least
unfoldable pub cut_of : ℕ → List ℕ → Cut
cut_of file bytes = cut_within (length bytes) file (start bytes)

-- the tokens of a source
abbrev pub tokens_of : ℕ → List ℕ → Tokens
tokens_of file bytes = record { file = file; list = (cut_of file bytes).tokens }

use Rattle.std.proofs.Common.{◌≡◌, ℕ, zero, suc, ◌+◌, ◌-◌, ◌<◌, ◌≤◌, false, nat_eq, List, ◌++◌, length, take, Option, None, refl, sym, ◌∙◌, ap, append_assoc, arith}
use Rattle.std.proofs.lemmas.Str.{utf8_valid_len-IsUtf8}
use Rattle.std.specs.Str.{IsUtf8}
use Rattle.std.specs.Str.Lossy.{utf8_valid_len}
use Rattle.asm_lex.specs.declared.token.Token.{Token}
use Rattle.asm_lex.specs.declared.fault.Fault.{Fault}
use Rattle.asm_lex.specs.declared.piece.Piece.{Piece}
use Rattle.asm_lex.specs.Pieces.{piece_of}
use Rattle.asm_lex.specs.Cut.{Point, behind, tokens_at, faults_at, end_at, with_piece, cut_within, cut_of}
use Rattle.asm_lex.specs.Faults.{line_of, number_of, first_after, first_fault, faults_of, utf8_fault, zero_fault}
use Rattle.goasm_base.proofs.RefusalLemmas.{first_after-append}
use Rattle.std.specs.Option.{option_to_list}

pub all_utf8 : (bytes : List ℕ) → IsUtf8 bytes → utf8_valid_len bytes ≡ length bytes
all_utf8 bytes is = utf8_valid_len-IsUtf8 bytes is

-- a piece, where bytes are left
pub cut_next : (n i file : ℕ) (point : Point) → i < n → nat_eq (length point.rest) 0 ≡ false
    → cut_within (n - i) file point
    ≡ with_piece file point (piece_of point.rest) (cut_within (n - (i + 1)) file (behind point (piece_of point.rest)))
unfolding cut_within
cut_next n i file point inside left =
    let more : n - i ≡ suc (n - (i + 1)) = omega arith in
    rw (more, left) refl

ends_within : (most file : ℕ) (point : Point) → length point.rest ≡ 0 → cut_within most file point ≡ end_at file point
unfolding cut_within
ends_within zero file point none = refl
ends_within (suc most) file point none = rw none refl

-- the end, where none are left
pub cut_ends : (n i file : ℕ) (point : Point) → length point.rest ≡ 0 → cut_within (n - i) file point ≡ end_at file point
cut_ends n i file point none = ends_within (n - i) file point none

-- one piece more is cut off
pub tokens_next : (n i file : ℕ) (point next : Point) (piece : Piece) (before after whole : List Token)
    → i < n → nat_eq (length point.rest) 0 ≡ false → piece ≡ piece_of point.rest → next ≡ behind point piece
    → after ≡ before ++ tokens_at file point piece.class (take piece.len point.rest)
    → before ++ (cut_within (n - i) file point).tokens ≡ whole
    → after ++ (cut_within (n - (i + 1)) file next).tokens ≡ whole
tokens_next n i file point next piece before after whole inside left is there adds known =
    let step : before ++ (with_piece file point (piece_of point.rest) (cut_within (n - (i + 1)) file (behind point (piece_of point.rest)))).tokens ≡ whole
    = rw (cut_next n i file point inside left) at known in
    rw (adds, there, is, append_assoc) step

pub faults_next : (n i file : ℕ) (point next : Point) (piece : Piece) (before after whole : Option Fault)
    → i < n → nat_eq (length point.rest) 0 ≡ false → piece ≡ piece_of point.rest → next ≡ behind point piece
    → after ≡ first_after before (faults_at point piece.class)
    → first_after before (cut_within (n - i) file point).faults ≡ whole
    → first_after after (cut_within (n - (i + 1)) file next).faults ≡ whole
faults_next n i file point next piece before after whole inside left is there adds known =
    let step : first_after before (faults_at point (piece_of point.rest).class ++ (cut_within (n - (i + 1)) file (behind point (piece_of point.rest))).faults) ≡ whole
    = rw (cut_next n i file point inside left) at known in
    let both = first_after-append line_of number_of before (faults_at point (piece_of point.rest).class) (cut_within (n - (i + 1)) file (behind point (piece_of point.rest))).faults in
    rw (adds, there, is) (sym both ∙ step)

-- the end of the file is added
pub tokens_end : (n i file : ℕ) (point : Point) (before after whole : List Token)
    → cut_within (n - i) file point ≡ end_at file point → after ≡ before ++ (end_at file point).tokens
    → before ++ (cut_within (n - i) file point).tokens ≡ whole → after ≡ whole
tokens_end n i file point before after whole ends adds known = rw adds (rw ends at known)

pub faults_end : (n i file : ℕ) (point : Point) (before after whole : Option Fault)
    → cut_within (n - i) file point ≡ end_at file point → after ≡ before
    → first_after before (cut_within (n - i) file point).faults ≡ whole → after ≡ whole
faults_end n i file point before after whole ends same known = rw same (rw ends at known)

-- no piece more may be cut off
pub cut_spent : (n i file : ℕ) (point : Point) → n ≤ i → cut_within (n - i) file point ≡ end_at file point
unfolding cut_within
cut_spent n i file point spent =
    let none : n - i ≡ zero = omega arith in
    rw none refl

-- the first of all that is refused
pub first_of_all : (bytes : List ℕ) (file : ℕ)
    → first_after (first_fault (option_to_list (utf8_fault bytes) ++ option_to_list (zero_fault bytes))) (cut_of file bytes).faults
    ≡ first_fault (faults_of file bytes)
first_of_all bytes file =
    let both = first_after-append line_of number_of None (option_to_list (utf8_fault bytes) ++ option_to_list (zero_fault bytes)) (cut_of file bytes).faults in
    sym both ∙ ap first_fault (append_assoc (option_to_list (utf8_fault bytes)) (option_to_list (zero_fault bytes)) (cut_of file bytes).faults)

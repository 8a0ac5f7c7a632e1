-- The places of tokens and of refusals, and how many tokens there are.
use Rattle.std.proofs.Common.{◌≡◌, ℕ, zero, suc, ◌+◌, ◌≤◌, nat_eq, nat_lt, List, [], ◌∷◌, ◌++◌, length, take, All, inl, inr, refl, arith}
use Rattle.std.proofs.lemmas.Bool.{cases_Bool, ltb-true}
use Rattle.std.proofs.lemmas.List.Elements.{All-nil, All-cons}
use Rattle.asm_lex.specs.declared.token.Kind.TheVariants.{End}
use Rattle.asm_lex.specs.declared.token.Token.{Token}
use Rattle.asm_lex.specs.declared.piece.Class.{Class}
use Rattle.asm_lex.specs.declared.piece.Class.TheVariants.{Gap, Part, Wrong}
use Rattle.asm_lex.specs.declared.fault.Cause.{Cause}
use Rattle.asm_lex.specs.declared.fault.Cause.TheVariants.{NotUtf8, Open, Form, Stray}
use Rattle.asm_lex.specs.declared.fault.Fault.{Fault}
use Rattle.asm_lex.specs.Characters.{newline}
use Rattle.asm_lex.specs.Lines.{last_line, next_line, line_after}
use Rattle.asm_lex.specs.Pieces.{piece_of}
use Rattle.asm_lex.specs.Cut.{Point, token_at, tokens_at, behind, cut_within, cut_of, start, tokens_of}
use Rattle.asm_lex.specs.Faults.{refusal, IsInFile}

abbrev IsIn : ℕ → Token → Type 0
IsIn file token = token.pos.file ≡ file

piece_in : (file : ℕ) (point : Point) (class : Class) (text : List ℕ) (others : List Token) → All (IsIn file) others → All (IsIn file) (tokens_at file point class text ++ others)
piece_in file point Gap text others all = all
piece_in file point (Part kind) text others all = All-cons (IsIn file) (token_at file point kind text) others refl all
piece_in file point (Wrong cause) text others all = all

end_in : (file : ℕ) (point : Point) → All (IsIn file) (token_at file point End (newline ∷ []) ∷ [])
end_in file point = All-cons (IsIn file) (token_at file point End (newline ∷ [])) [] refl (All-nil (IsIn file))

cut_in : (most file : ℕ) (point : Point) → All (IsIn file) (cut_within most file point).tokens
unfolding cut_within
cut_in zero file point = end_in file point
cut_in (suc most) file point =
    elim (cases_Bool (nat_eq (length point.rest) 0)) [
      | inl none ↦ rw none (end_in file point)
      | inr some ↦ rw some (piece_in file point (piece_of point.rest).class (take (piece_of point.rest).len point.rest)
          (cut_within most file (behind point (piece_of point.rest))).tokens (cut_in most file (behind point (piece_of point.rest))))
    ]

pub tokens_in : (file : ℕ) (bytes : List ℕ) → All (λ token. token.pos.file ≡ file) (tokens_of file bytes).list
unfolding cut_of
tokens_in file bytes = cut_in (length bytes) file (start bytes)

abbrev IsCounted : Token → Type 0
IsCounted token = token.pos.line ≤ last_line

next_counted : (line : ℕ) → line ≤ last_line → next_line line ≤ last_line
next_counted line counted =
    elim (cases_Bool (nat_lt line last_line)) [
      | inl more ↦ let before = ltb-true _ _ more in rw more (omega (arith, before))
      | inr last ↦ rw last counted
    ]

after_counted : (line : ℕ) (bytes : List ℕ) → line ≤ last_line → line_after line bytes ≤ last_line
unfolding line_after
after_counted line [] counted = counted
after_counted line (byte ∷ bytes) counted =
    elim (cases_Bool (nat_eq byte newline)) [
      | inl ends ↦ rw ends (after_counted (next_line line) bytes (next_counted line counted))
      | inr other ↦ rw other (after_counted line bytes counted)
    ]

piece_counted : (file : ℕ) (point : Point) (class : Class) (text : List ℕ) (others : List Token)
    → point.line ≤ last_line → All IsCounted others → All IsCounted (tokens_at file point class text ++ others)
piece_counted file point Gap text others counted all = all
piece_counted file point (Part kind) text others counted all = All-cons IsCounted (token_at file point kind text) others counted all
piece_counted file point (Wrong cause) text others counted all = all

end_counted : (file : ℕ) (point : Point) → point.line ≤ last_line → All IsCounted (token_at file point End (newline ∷ []) ∷ [])
end_counted file point counted = All-cons IsCounted (token_at file point End (newline ∷ [])) [] counted (All-nil IsCounted)

cut_counted : (most file : ℕ) (point : Point) → point.line ≤ last_line → All IsCounted (cut_within most file point).tokens
unfolding cut_within
cut_counted zero file point counted = end_counted file point counted
cut_counted (suc most) file point counted =
    elim (cases_Bool (nat_eq (length point.rest) 0)) [
      | inl none ↦ rw none (end_counted file point counted)
      | inr some ↦ rw some (piece_counted file point (piece_of point.rest).class (take (piece_of point.rest).len point.rest)
          (cut_within most file (behind point (piece_of point.rest))).tokens counted
          (cut_counted most file (behind point (piece_of point.rest)) (after_counted point.line (take (piece_of point.rest).len point.rest) counted)))
    ]

pub tokens_counted : (file : ℕ) (bytes : List ℕ) → All (λ token. token.pos.line ≤ last_line) (tokens_of file bytes).list
unfolding cut_of
tokens_counted file bytes = cut_counted (length bytes) file (start bytes) (omega arith)

piece_few : (file : ℕ) (point : Point) (class : Class) (text : List ℕ) (others : List Token) → length (tokens_at file point class text ++ others) ≤ 1 + length others
piece_few file point Gap text others = omega arith
piece_few file point (Part kind) text others = omega arith
piece_few file point (Wrong cause) text others = omega arith

cut_few : (most file : ℕ) (point : Point) → length (cut_within most file point).tokens ≤ most + 1
unfolding cut_within
cut_few zero file point = omega arith
cut_few (suc most) file point =
    let one = piece_few file point (piece_of point.rest).class (take (piece_of point.rest).len point.rest) (cut_within most file (behind point (piece_of point.rest))).tokens in
    let others = cut_few most file (behind point (piece_of point.rest)) in
    elim (cases_Bool (nat_eq (length point.rest) 0)) [
      | inl none ↦ rw none (omega arith)
      | inr some ↦ rw some (omega (arith, one, others))
    ]

pub tokens_few : (file : ℕ) (bytes : List ℕ) → length (tokens_of file bytes).list ≤ length bytes + 1
unfolding cut_of
tokens_few file bytes = cut_few (length bytes) file (start bytes)

in_file : (file line : ℕ) (cause : Cause) → IsInFile file (refusal file (record { line = line; cause = cause }))
in_file file line NotUtf8 = refl
in_file file line Open = refl
in_file file line Form = refl
in_file file line Stray = refl

pub refusal_in : (file : ℕ) (fault : Fault) → IsInFile file (refusal file fault)
refusal_in file fault = in_file file fault.line fault.cause

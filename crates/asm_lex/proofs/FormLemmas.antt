-- What is cut has the form of tokens.
use Rattle.std.proofs.Common.{◌≡◌, ℕ, zero, suc, ◌+◌, ◌-◌, ◌<◌, ◌≤◌, ◌==◌, Bool, true, false, ◌||◌, nat_eq, nat_lt, List, [], ◌∷◌, ◌++◌, length, take, Option, Some, None, IsTrue, inl, inr, refl, arith, add-one, if◌then◌else◌}
use Rattle.std.proofs.Math.Seq.{take-nil}
use Rattle.std.proofs.lemmas.Bool.{cases_Bool, eq-eqb, ltb-true}
use Rattle.std.proofs.lemmas.List.{get_or-take, length-take-le}
use Rattle.std.proofs.lemmas.List.Elements.{All-from_recursion}
use Rattle.std.specs.List.{AllByRecursion}
use Rattle.asm_lex.specs.declared.token.Kind.TheVariants as kinds
use Rattle.asm_lex.specs.declared.token.Token.{Token}
use Rattle.asm_lex.specs.declared.piece.Piece.{Piece}
use Rattle.asm_lex.specs.declared.piece.Class.{Class}
use Rattle.asm_lex.specs.declared.piece.Class.TheVariants.{Gap, Part, Wrong}
use Rattle.asm_lex.specs.Characters.{newline, quote, star, slash, semicolon, backslash, is_space, is_ascii_digit, first, begins}
use Rattle.asm_lex.specs.Words.{run_len, is_word}
use Rattle.asm_lex.specs.Numbers.{number_value}
use Rattle.asm_lex.specs.Texts.{text_end, closing, are_escapes, inside, is_text}
use Rattle.asm_lex.specs.Comments.{comment_closing}
use Rattle.asm_lex.specs.Signs.{sign_len}
use Rattle.asm_lex.specs.Pieces.{piece, comment_piece_of, comment_piece, text_class, text_piece_of, text_piece, number_piece_of, number_piece, word_piece, token_piece, piece_of}
use Rattle.asm_lex.specs.Cut.{Point, token_at, tokens_at, behind, cut_within, cut_of, start, tokens_of}
use Rattle.asm_lex.specs.Form.{HasForm, EndsWithEnd, AreTokens}
use Rattle.asm_lex.proofs.WordLemmas.{run_bound, run_taken}
use Rattle.asm_lex.proofs.TextLemmas.{end_bounds, text_taken}
use Rattle.asm_lex.proofs.SignLemmas.{sign_taken}

-- a piece that is a token has the form of its kind
abbrev HasClassForm : Class → List ℕ → Type 0
HasClassForm Gap text = Unit {0}
HasClassForm (Part kind) text = HasForm kind text
HasClassForm (Wrong cause) text = Unit {0}

abbrev IsFormed : List ℕ → Piece → Type 0
IsFormed bytes piece = HasClassForm piece.class (take piece.len bytes)

either : (P : Piece → Type 0) (test : Bool) (one other : Piece)
    → (test ≡ true → P one) → (test ≡ false → P other) → P (if test then one else other)
either P true one other first second = first refl
either P false one other first second = second refl

word_taken : (bytes : List ℕ) → is_ascii_digit (first bytes) ≡ false → nat_lt 0 (run_len bytes) ≡ true
    → IsTrue (is_word (take (run_len bytes) bytes))
word_taken bytes letter some =
    let bounds = run_bound 0 0 bytes in
    let within : run_len bytes ≤ length bytes = omega (arith, bounds.1) in
    let positive : 0 < run_len bytes = ltb-true _ _ some in
    let len : length (take (run_len bytes) bytes) ≡ run_len bytes = length-take-le (run_len bytes) bytes within in
    rw (len, some, get_or-take (run_len bytes) bytes 0 0 positive, letter, run_taken bytes) (eq-eqb _ _ refl)

word_formed : (bytes : List ℕ) → is_ascii_digit (first bytes) ≡ false → IsFormed bytes (word_piece bytes)
unfolding word_piece
word_formed bytes letter =
    either (IsFormed bytes) (nat_lt 0 (run_len bytes)) _ _ (word_taken bytes letter)
    (λ _. either (IsFormed bytes) (nat_lt 0 (sign_len bytes)) _ _ (sign_taken bytes) (λ _. tt))

number_formed_of : (bytes : List ℕ) (len : ℕ) (found : Option ℕ)
    → number_value (take len bytes) ≡ found → IsFormed bytes (number_piece_of len found)
number_formed_of bytes len None is = tt
number_formed_of bytes len (Some value) is = is

number_formed : (bytes : List ℕ) → IsFormed bytes (number_piece bytes)
unfolding number_piece
number_formed bytes = number_formed_of bytes (run_len bytes) (number_value (take (run_len bytes) bytes)) refl

take_shorter : (m n : ℕ) (xs : List ℕ) → m ≤ n → take m (take n xs) ≡ take m xs
take_shorter zero n xs fits = refl
take_shorter (suc m) n [] fits = rw (take-nil {A = ℕ} n) refl
take_shorter (suc m) zero (x ∷ xs) fits = absurd (omega arith)
take_shorter (suc m) (suc n) (x ∷ xs) fits = rw (take_shorter m n xs (omega arith)) refl

text_taken_by : (byte : ℕ) (bytes : List ℕ) (end : ℕ) → nat_eq byte quote ≡ true → text_end 0 false bytes ≡ Some end
    → are_escapes 0 (take (end - 1) bytes) ≡ true → IsTrue (is_text (byte ∷ take end bytes))
text_taken_by byte bytes end opens is known =
    let bounds = end_bounds 0 false bytes end is in
    let within : end ≤ length bytes = omega (arith, bounds.1) in
    let len : length (take end bytes) ≡ end = length-take-le end bytes within in
    let whole : suc (length (take end bytes)) - 1 ≡ end = omega arith in
    let same : text_end 0 false (take end bytes) ≡ Some end = text_taken 0 false bytes end end (omega arith) is in
    let inner : take (end - 1) (take end bytes) ≡ take (end - 1) bytes = take_shorter (end - 1) end bytes (omega arith) in
    rw (opens, whole, same, eq-eqb end end refl, inner) known

text_formed_by : (bytes : List ℕ) (end : ℕ) (known : Bool) → nat_eq (first bytes) quote ≡ true → closing bytes ≡ Some end
    → are_escapes 0 (inside end bytes) ≡ known → IsFormed bytes (piece (text_class known) (end + 1))
text_formed_by bytes end false opens is escapes = tt
text_formed_by [] end true opens is escapes = cc
text_formed_by (byte ∷ bytes) end true opens is escapes = rw add-one (text_taken_by byte bytes end opens is escapes)

text_formed_of : (bytes : List ℕ) (found : Option ℕ) → nat_eq (first bytes) quote ≡ true → closing bytes ≡ found
    → IsFormed bytes (text_piece_of bytes found)
text_formed_of bytes None opens is = tt
text_formed_of bytes (Some end) opens is = text_formed_by bytes end (are_escapes 0 (inside end bytes)) opens is refl

text_formed : (bytes : List ℕ) → nat_eq (first bytes) quote ≡ true → IsFormed bytes (text_piece bytes)
unfolding text_piece
text_formed bytes opens = text_formed_of bytes (closing bytes) opens refl

end_formed : (bytes : List ℕ) → (first bytes == newline || first bytes == semicolon) ≡ true
    → IsFormed bytes (piece (Part kinds.End) 1)
end_formed [] is = cc
end_formed (byte ∷ bytes) is = is

token_formed : (bytes : List ℕ) → IsFormed bytes (token_piece bytes)
unfolding token_piece
token_formed bytes =
    either (IsFormed bytes) (first bytes == newline || first bytes == semicolon) _ _ (end_formed bytes)
    (λ _. either (IsFormed bytes) (first bytes == quote) _ _ (text_formed bytes)
    (λ _. either (IsFormed bytes) (is_ascii_digit (first bytes)) _ _ (λ _. number_formed bytes) (word_formed bytes)))

comment_formed_of : (bytes : List ℕ) (found : Option ℕ) → IsFormed bytes (comment_piece_of bytes found)
comment_formed_of bytes None = tt
comment_formed_of bytes (Some end) = tt

comment_formed : (bytes : List ℕ) → IsFormed bytes (comment_piece bytes)
unfolding comment_piece
comment_formed bytes = comment_formed_of bytes (comment_closing bytes)

piece_formed : (bytes : List ℕ) → IsFormed bytes (piece_of bytes)
unfolding piece_of
piece_formed bytes =
    either (IsFormed bytes) (is_space (first bytes)) _ _ (λ _. tt)
    (λ _. either (IsFormed bytes) (begins backslash newline bytes) _ _ (λ _. tt)
    (λ _. either (IsFormed bytes) (begins slash slash bytes) _ _ (λ _. tt)
    (λ _. either (IsFormed bytes) (begins slash star bytes) _ _ (λ _. comment_formed bytes) (λ _. token_formed bytes))))

abbrev TokenForm : Token → Type 0
TokenForm token = HasForm token.kind token.text

-- there are tokens, and the last one is an end
abbrev AreEnded : List Token → Type 0
AreEnded [] = ⊥
AreEnded (token ∷ []) = token.kind ≡ kinds.End
AreEnded (token ∷ next ∷ tokens) = AreEnded (next ∷ tokens)

ended_behind : (token : Token) (tokens : List Token) → AreEnded tokens → AreEnded (token ∷ tokens)
ended_behind token [] ended = absurd ended
ended_behind token (next ∷ tokens) ended = ended

ends_from : (tokens : List Token) → AreEnded tokens → EndsWithEnd tokens
ends_from [] ended = tt
ends_from (token ∷ []) ended = ended
ends_from (token ∷ next ∷ tokens) ended = ends_from (next ∷ tokens) ended

abbrev Fine : List Token → Type 0
Fine tokens = AllByRecursion TokenForm tokens × AreEnded tokens

piece_fine : (file : ℕ) (point : Point) (class : Class) (text : List ℕ) (others : List Token)
    → HasClassForm class text → Fine others → Fine (tokens_at file point class text ++ others)
piece_fine file point Gap text others form fine = fine
piece_fine file point (Part kind) text others form fine = ((form, fine.0), ended_behind (token_at file point kind text) others fine.1)
piece_fine file point (Wrong cause) text others form fine = fine

cut_fine : (most file : ℕ) (point : Point) → Fine (cut_within most file point).tokens
unfolding cut_within
cut_fine zero file point = ((refl, tt), refl)
cut_fine (suc most) file point =
    elim (cases_Bool (nat_eq (length point.rest) 0)) [
      | inl none ↦ rw none ((refl, tt), refl)
      | inr some ↦ rw some (piece_fine file point (piece_of point.rest).class (take (piece_of point.rest).len point.rest)
          (cut_within most file (behind point (piece_of point.rest))).tokens
          (piece_formed point.rest) (cut_fine most file (behind point (piece_of point.rest))))
    ]

pub cut_formed : (file : ℕ) (bytes : List ℕ) → AreTokens (tokens_of file bytes)
unfolding cut_of
cut_formed file bytes =
    let tokens : List Token = (cut_within (length bytes) file (start bytes)).tokens in
    let fine : Fine tokens = cut_fine (length bytes) file (start bytes) in
    record {
      forms = All-from_recursion TokenForm tokens fine.0;
      ended = ends_from tokens fine.1;
    }

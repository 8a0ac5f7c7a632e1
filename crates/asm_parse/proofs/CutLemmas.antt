-- Tokens, cut into statements.
use Rattle.std.proofs.Common.{◌≡◌, ℕ, ◌+◌, ◌<◌, ◌≤◌, Bool, true, false, nat_lt, if◌then◌else◌, List, [], ◌∷◌, ◌++◌, length, length-drop, take, drop, Some, None, refl, append_assoc, arith}
use Rattle.std.specs.Prelude.{position}
use Rattle.std.specs.List.{position_or_len}
use Rattle.std.proofs.lemmas.Bool.{ltb-false}
use Rattle.std.proofs.lemmas.List.{map-append, drop-drop}
use Rattle.std.proofs.lemmas.List.Quantifiers.{position-Some}
use Rattle.std.proofs.lemmas.List.Sums.{position_or_len_is, fails_before_first}
use Rattle.std.proofs.lemmas.List.Splits.{slice_split_first, slice_split_none}
use Rattle.asm_lex.specs.declared.token.Token.{Token}
use Rattle.asm_parse.specs.declared.unread.Unread.{Unread}
use Rattle.asm_parse.specs.Ahead.{seen}
use Rattle.asm_parse.specs.Parse.{is_end, statements_of}

cut_next : (tokens : List Token) (len : ℕ) → position is_end tokens ≡ Some len
    → (len < length tokens) × (statements_of tokens ≡ take len tokens ∷ statements_of (drop (len + 1) tokens))
cut_next [] len is = cc
cut_next (token ∷ others) len is =
    let tokens : List Token = token ∷ others in
    let found = position-Some is_end tokens len token is in
    let place : position_or_len is_end tokens ≡ len = position_or_len_is is_end tokens len token (omega (arith, found.0)) found.2 (λ _. found.1) in
    let within : position_or_len is_end tokens < length tokens = rw place found.0 in
    (found.0, rw place at (slice_split_first is_end tokens token within))

none_of : (known : Bool) (len : ℕ) → (if known then Some len else None) ≡ None → known ≡ false
none_of true len is = cc
none_of false len is = refl

cut_last : (tokens : List Token) → position is_end tokens ≡ None → statements_of tokens ≡ tokens ∷ []
cut_last tokens none =
    let past : length tokens ≤ position_or_len is_end tokens = ltb-false _ _ (none_of (nat_lt (position_or_len is_end tokens) (length tokens)) _ none) in
    slice_split_none is_end tokens (λ at token within. fails_before_first is_end tokens at token (omega (arith, past, within)))

-- a statement more
pub statement_more : (before after : List Unread) (next : Unread) (tokens : List Token) (from len : ℕ) (whole : List (List Token))
    → position is_end (drop from tokens) ≡ Some len → next.tokens.now ≡ take len (drop from tokens) → after ≡ before ++ next ∷ []
    → seen before ++ statements_of (drop from tokens) ≡ whole → seen after ++ statements_of (drop (from + (len + 1)) tokens) ≡ whole
statement_more before after next tokens from len whole found is adds known =
    let cut = cut_next (drop from tokens) len found in
    let step : seen before ++ (take len (drop from tokens) ∷ statements_of (drop (len + 1) (drop from tokens))) ≡ whole = rw cut.1 at known in
    rw (adds, map-append, append_assoc, is, ← drop-drop (len + 1) from tokens) step

-- the last statement
pub statement_last : (before after : List Unread) (last : Unread) (tokens : List Token) (from : ℕ) (whole : List (List Token))
    → position is_end (drop from tokens) ≡ None → last.tokens.now ≡ drop from tokens → after ≡ before ++ last ∷ []
    → seen before ++ statements_of (drop from tokens) ≡ whole → seen after ≡ whole
statement_last before after last tokens from whole none is adds known =
    rw (adds, map-append, is) (rw (cut_last (drop from tokens) none) at known)

pub statement_within : (tokens : List Token) (from len : ℕ) → from ≤ length tokens → position is_end (drop from tokens) ≡ Some len
    → from + (len + 1) ≤ length tokens
statement_within tokens from len within found =
    let cut = cut_next (drop from tokens) len found in
    omega (arith, cut.0, length-drop from tokens, within)

-- How many tokens statements have.
use Rattle.std.proofs.Common.{◌≡◌, ℕ, suc, ◌+◌, ◌<◌, ◌≤◌, Bool, true, false, List, [], ◌∷◌, length, take, get_or, refl, sym, ap, ◌∙◌, arith}
use Rattle.std.specs.Prelude.{sum_by}
use Rattle.std.specs.List.{slice_split, onto_first}
use Rattle.asm_parse.specs.declared.unread.Unread.{Unread}
use Rattle.std.proofs.lemmas.List.{get_or-map, length-map, take_all}
use Rattle.std.proofs.lemmas.List.Sums.{sum_by-cons, sum_by_more}
use Rattle.std.proofs.lemmas.List.Splits.{slice_split-cons_yes, slice_split-cons_no}
use Rattle.asm_lex.specs.declared.token.Token.{Token}
use Rattle.asm_parse.specs.Ahead.{seen}
use Rattle.asm_parse.specs.Parse.{is_end, statements_of}

one_more : (token : Token) (parts : List (List Token)) → sum_by length (onto_first token parts) ≤ suc (sum_by length parts)
one_more token [] = omega arith
one_more token (part ∷ parts) = omega (arith, sum_by-cons length (token ∷ part) parts, sum_by-cons length part parts)

-- no token stands in two statements
pub total_within : (tokens : List Token) → sum_by length (statements_of tokens) ≤ length tokens
total_within [] = omega arith
total_within (token ∷ tokens) = by (total_within tokens) (is_end token) refl where
  by : sum_by length (statements_of tokens) ≤ length tokens → (ended : Bool) → is_end token ≡ ended → sum_by length (statements_of (token ∷ tokens)) ≤ length (token ∷ tokens)
  by rest true is =
      let cut = slice_split-cons_yes is_end token tokens is in
      rw cut (omega (arith, sum_by-cons length [] (slice_split is_end tokens), rest))
  by rest false is =
      let cut = slice_split-cons_no is_end token tokens is in
      rw cut (omega (arith, one_more token (slice_split is_end tokens), rest))

module _ (statements : List Unread) (at : ℕ) where
  -- one more of them
  pub total_more : (statement : Unread) → at < length statements → statement ≡ get_or statements at statement
      → sum_by length (take at (seen statements)) + length statement.tokens.now ≡ sum_by length (take (at + 1) (seen statements))
  total_more statement within item =
      let inside : at < length (seen statements) = rw length-map within in
      let own : get_or (seen statements) at statement.tokens.now ≡ statement.tokens.now
      = get_or-map (λ (x : Unread). x.tokens.now) statements at statement statement.tokens.now within ∙ ap (λ (x : Unread). x.tokens.now) (sym item) in
      sym (sum_by_more length (seen statements) at statement.tokens.now inside ∙ ap (λ (x : List Token). sum_by length (take at (seen statements)) + length x) own)

  pub total_all : length statements ≤ at → sum_by length (take at (seen statements)) ≡ sum_by length (seen statements)
  total_all past = let none : length (seen statements) ≤ at = rw length-map past in ap (λ (x : List (List Token)). sum_by length x) (take_all at (seen statements) none)

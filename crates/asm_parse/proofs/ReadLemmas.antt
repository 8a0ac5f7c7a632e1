-- One turn of the loop over statements.
use Rattle.std.proofs.Common.{◌≡◌, ℕ, ◌+◌, ◌<◌, ◌≤◌, Bool, List, [], ◌∷◌, ◌++◌, length, get_or, drop, map, Option, Some, None, Result, Ok, Err, refl, sym, ap, ◌∙◌, arith}
use Rattle.std.specs.Prelude.{option_to_list, unwrap_or}
use Rattle.asm_parse.specs.declared.unread.Unread.{Unread}
use Rattle.std.proofs.lemmas.List.{drop_more, drop-map, at_drop_all, same_from_push, length_push, length-map}
use Rattle.asm_lex.specs.declared.token.Token.{Token}
use Rattle.asm_parse.specs.declared.ahead.Outlook.{Outlook}
use Rattle.asm_parse.specs.declared.parse_no.ParseNo.{ParseNo}
use Rattle.asm_parse.specs.Ahead.{seen, outlook_of, outlooks_back}
use Rattle.asm_parse.specs.Progress.{State}
use Rattle.asm_parse.specs.Steps.{step, steps}
use Rattle.asm_parse.specs.Parse.{statements_of, read_of, unit_of, parsed}

pub popped : (before after front : List Outlook) (result : Option Outlook) (own other : Outlook) → before ≡ after ++ option_to_list result
    → (result ≡ None → length before ≡ 0) → before ≡ front ++ own ∷ [] → (after ≡ front) × (unwrap_or result other ≡ own)
popped before after front None own other parts none whole = absurd (omega (arith, none refl, ap length whole, length_push front own))
popped before after front (Some outlook) own other parts none whole = same_from_push after front outlook own (sym parts ∙ whole)

module _ (statements : List Unread) (at : ℕ) (statement : Unread) (within : at < length statements) (item : statement ≡ get_or statements at statement) where
  pub front : drop at (seen statements) ≡ statement.tokens.now ∷ drop (at + 1) (seen statements)
  front =
      drop-map (λ (x : Unread). x.tokens.now) at statements ∙ ap (map (λ (x : Unread). x.tokens.now)) (drop_more statements at statement within ∙ ap (λ (x : Unread). x ∷ drop (at + 1) statements) (sym item))
      ∙ ap (λ (others : List (List Token)). statement.tokens.now ∷ others) (sym (drop-map (λ (x : Unread). x.tokens.now) (at + 1) statements))

  pub ahead : (before : List Outlook) → before ≡ outlooks_back (drop at (seen statements))
      → before ≡ outlooks_back (drop (at + 1) (seen statements)) ++ outlook_of statement.tokens.now (drop (at + 1) (seen statements)) ∷ []
  unfolding outlooks_back
  ahead before so_far = so_far ∙ rw front refl

  module _ (word : List ℕ → Bool) (state : State) (outlook : Outlook) (whole : Result State ParseNo) (so_far : steps word state (drop at (seen statements)) ≡ whole)
      (outlook-is : outlook ≡ outlook_of statement.tokens.now (drop (at + 1) (seen statements))) where
    pub reads_on : (after : State) → step word state outlook statement.tokens.now ≡ Ok after → steps word after (drop (at + 1) (seen statements)) ≡ whole
    unfolding steps
    reads_on after said =
        let turn : steps word state (statement.tokens.now ∷ drop (at + 1) (seen statements)) ≡ steps word after (drop (at + 1) (seen statements)) = rw (← outlook-is, said) refl in
        sym turn ∙ ap (steps word state) (sym front) ∙ so_far

    pub read_stops : (refused : ParseNo) → step word state outlook statement.tokens.now ≡ Err refused → whole ≡ Err refused
    unfolding steps
    read_stops refused said =
        let turn : steps word state (statement.tokens.now ∷ drop (at + 1) (seen statements)) ≡ Err refused = rw (← outlook-is, said) refl in
        sym so_far ∙ ap (steps word state) front ∙ turn

pub reads_done : (statements : List Unread) (at : ℕ) (word : List ℕ → Bool) (state : State) (whole : Result State ParseNo)
    → steps word state (drop at (seen statements)) ≡ whole → length statements ≤ at → whole ≡ Ok state
unfolding steps
reads_done statements at word state whole so_far past =
    let none : length (seen statements) ≤ at = rw length-map past in
    sym so_far ∙ at_drop_all (steps word state) (seen statements) at none

pub parsed_stops : (word : List ℕ → Bool) (tokens : List Token) (statements : List (List Token)) (refused : ParseNo)
    → statements ≡ statements_of tokens → read_of word statements ≡ Err refused → parsed word tokens ≡ Err refused
unfolding parsed
parsed_stops word tokens statements refused is said = rw (← is, said) refl

pub parsed_on : (word : List ℕ → Bool) (tokens : List Token) (statements : List (List Token)) (state : State)
    → statements ≡ statements_of tokens → read_of word statements ≡ Ok state → parsed word tokens ≡ unit_of word state
unfolding parsed
parsed_on word tokens statements state is said = rw (← is, said) refl

-- What stands ahead, statement by statement from the back; and labels, one by one.
use Rattle.std.proofs.Common.{◌≡◌, ℕ, ◌+◌, ◌-◌, ◌<◌, ◌≤◌, Bool, true, false, cond, List, [], ◌∷◌, ◌++◌, length, get_or, drop, map, Option, Some, None, refl, sym, ap, ◌∙◌, arith}
use Rattle.asm_parse.specs.declared.unread.Unread.{Unread}
use Rattle.std.specs.Prelude.{◌&&◌, codes}
use Rattle.std.proofs.lemmas.List.{drop_more, drop-map}
use Rattle.asm_lex.specs.declared.token.Token.{Token}
use Rattle.asm_grammar.specs.Tokens.{is_word, is_sign, word_of}
use Rattle.asm_grammar.specs.Reader.{Reading, eat_label, label_from, behind, next, taken, is_empty}
use Rattle.asm_parse.specs.declared.ahead.Opening.{Opening}
use Rattle.asm_parse.specs.declared.ahead.Opening.TheVariants.{Aside, Code}
use Rattle.asm_parse.specs.declared.ahead.Outlook.{Outlook}
use Rattle.asm_parse.specs.Ahead.{seen, after_labels, opening_of, opening_in, opening_at, opening_by, before, ahead_of, outlooks_back}

-- the outlooks from a statement on, by those behind it
pub outlook_turn : (statements : List Unread) (at : ℕ) (statement : Unread) → at < length statements → statement ≡ get_or statements at statement
    → (outlooks_back (drop at (seen statements)) ≡ outlooks_back (drop (at + 1) (seen statements)) ++ record { here = before (opening_of statement.tokens.now) (ahead_of (drop (at + 1) (seen statements))); behind = ahead_of (drop (at + 1) (seen statements)) } ∷ [])
    × (ahead_of (drop at (seen statements)) ≡ before (opening_of statement.tokens.now) (ahead_of (drop (at + 1) (seen statements))))
unfolding outlooks_back
outlook_turn statements at statement within item =
    let front : drop at (seen statements) ≡ statement.tokens.now ∷ drop (at + 1) (seen statements) =
    drop-map (λ (x : Unread). x.tokens.now) at statements ∙ ap (map (λ (x : Unread). x.tokens.now)) (drop_more statements at statement within ∙ ap (λ (x : Unread). x ∷ drop (at + 1) statements) (sym item))
    ∙ ap (λ (others : List (List Token)). statement.tokens.now ∷ others) (sym (drop-map (λ (x : Unread). x.tokens.now) (at + 1) statements)) in
    (rw front refl, rw front refl)

-- what was read, and what is left behind it
abbrev word_of_read : Option (Option (List ℕ) × Reading) → Option (List ℕ)
word_of_read None = None
word_of_read (Some read) = read.0

abbrev left_of : Reading → Option (Option (List ℕ) × Reading) → List Token
left_of at None = at.rest
left_of at (Some read) = read.1.rest

none_is_some : {text : List ℕ} → None ≡ Some text → ⊥
none_is_some e = absurd cc

module _ (at after : Reading) (label : List ℕ) where
  eaten_by : (token other : Token) (tokens : List Token) (test : Bool) → (is_word token && is_sign (codes ":") other) ≡ test
      → cond {A = Option (Option (List ℕ) × Reading)} test (Some (Some token.text, behind at tokens)) (Some (None, at)) ≡ Some (Some label, after)
      → after_labels (token ∷ other ∷ tokens) ≡ after_labels after.rest
  unfolding after_labels
  eaten_by token other tokens true tested e =
      let same : tokens ≡ after.rest = ap (left_of at) e in
      rw tested (ap after_labels same)
  eaten_by token other tokens false tested e = absurd (none_is_some (ap word_of_read e))

  eaten_in : (tokens : List Token) → label_from at tokens ≡ Some (Some label, after) → after_labels tokens ≡ after_labels after.rest
  eaten_in [] e = absurd (none_is_some (ap word_of_read e))
  eaten_in (token ∷ []) e = absurd (none_is_some (ap word_of_read e))
  eaten_in (token ∷ other ∷ tokens) e = eaten_by token other tokens (is_word token && is_sign (codes ":") other) refl e

  pub eaten : eat_label at ≡ Some (Some label, after) → after_labels at.rest ≡ after_labels after.rest
  unfolding eat_label
  eaten e = eaten_in at.rest e

module _ (at after : Reading) where
  left_by : (token other : Token) (tokens : List Token) (test : Bool) → (is_word token && is_sign (codes ":") other) ≡ test
      → cond {A = Option (Option (List ℕ) × Reading)} test (Some (Some token.text, behind at tokens)) (Some (None, at)) ≡ Some (None, after)
      → after_labels (token ∷ other ∷ tokens) ≡ token ∷ other ∷ tokens
  unfolding after_labels
  left_by token other tokens true tested e = absurd (none_is_some (sym (ap word_of_read e)))
  left_by token other tokens false tested e = rw tested refl

  left_in : (tokens : List Token) → label_from at tokens ≡ Some (None, after) → after_labels tokens ≡ tokens
  unfolding after_labels
  left_in [] e = refl
  left_in (token ∷ []) e = refl
  left_in (token ∷ other ∷ tokens) e = left_by token other tokens (is_word token && is_sign (codes ":") other) refl e

  pub left : eat_label at ≡ Some (None, after) → after_labels at.rest ≡ at.rest
  unfolding eat_label
  left e = left_in at.rest e

-- one statement further to the front
pub outlook_kept : (statements : List Unread) (at : ℕ) (statement : Unread) (all longer : List Outlook) (behind here opening : Opening)
    → 0 < at → at ≤ length statements → statement ≡ get_or statements (at - 1) statement
    → all ≡ outlooks_back (drop at (seen statements)) → behind ≡ ahead_of (drop at (seen statements))
    → opening ≡ opening_of statement.tokens.now → here ≡ before opening behind → longer ≡ all ++ record { here = here; behind = behind } ∷ []
    → (longer ≡ outlooks_back (drop (at - 1) (seen statements))) × (here ≡ ahead_of (drop (at - 1) (seen statements)))
outlook_kept statements at statement all longer behind here opening some within item all-is behind-is opening-is here-is longer-is =
    let below : at - 1 < length statements = omega arith in
    let same : at - 1 + 1 ≡ at = omega arith in
    let turn = rw same at (outlook_turn statements (at - 1) statement below item) in
    let made : here ≡ before (opening_of statement.tokens.now) (ahead_of (drop at (seen statements))) = here-is ∙ ap (λ (o : Opening). before o behind) opening-is ∙ ap (before (opening_of statement.tokens.now)) behind-is in
    (longer-is ∙ rw (all-is, made, behind-is) (sym turn.0), made ∙ sym turn.1)

-- what stands where no label is left
pub opening_aside : (rest tokens : List Token) → after_labels rest ≡ after_labels tokens → after_labels rest ≡ rest → is_empty rest ≡ true → Aside ≡ opening_of tokens
unfolding opening_of
opening_aside [] tokens so_far none empty = ap opening_in (sym none ∙ so_far)
opening_aside (token ∷ rest) tokens so_far none empty = absurd cc

opening_by_word : (rest tokens : List Token) (at after : Reading) (word : List ℕ) → at.rest ≡ rest → next word_of at ≡ Some (Some word, after)
    → after_labels rest ≡ after_labels tokens → after_labels rest ≡ rest → opening_at word ≡ opening_of tokens
unfolding next opening_of
opening_by_word [] tokens at after word is read so_far none = absurd (none_is_some (ap word_of_read (rw is at read)))
opening_by_word (token ∷ rest) tokens at after word is read so_far none = by (word_of token) _ refl (rw is at read) where
  by : (found : Option (List ℕ)) (here : Reading) → word_of token ≡ found → taken found here rest ≡ Some (Some word, after) → opening_at word ≡ opening_of tokens
  by None here found e = absurd (none_is_some (ap word_of_read e))
  by (Some text) here found e =
      let same : Some text ≡ Some word = ap word_of_read e in
      rw (← so_far, none, found) (ap opening_by (sym same))

pub opening_word : (at after : Reading) (tokens : List Token) (word : List ℕ) → next word_of at ≡ Some (Some word, after)
    → after_labels at.rest ≡ after_labels tokens → after_labels at.rest ≡ at.rest → opening_at word ≡ opening_of tokens
opening_word at after tokens word read so_far none = opening_by_word at.rest tokens at after word refl read so_far none

opening_by_other : (rest tokens : List Token) (at after : Reading) → at.rest ≡ rest → is_empty rest ≡ false → next word_of at ≡ Some (None, after)
    → after_labels rest ≡ after_labels tokens → after_labels rest ≡ rest → Code ≡ opening_of tokens
unfolding next opening_of
opening_by_other [] tokens at after is some read so_far none = absurd cc
opening_by_other (token ∷ rest) tokens at after is some read so_far none = by (word_of token) _ refl (rw is at read) where
  by : (found : Option (List ℕ)) (here : Reading) → word_of token ≡ found → taken found here rest ≡ Some (None, after) → Code ≡ opening_of tokens
  by None here found e = rw (← so_far, none, found) refl
  by (Some text) here found e = absurd (none_is_some (sym (ap word_of_read e)))

pub opening_other : (at after : Reading) (tokens : List Token) → is_empty at.rest ≡ false → next word_of at ≡ Some (None, after)
    → after_labels at.rest ≡ after_labels tokens → after_labels at.rest ≡ at.rest → Code ≡ opening_of tokens
opening_other at after tokens some read so_far none = opening_by_other at.rest tokens at after refl some read so_far none

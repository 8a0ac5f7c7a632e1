use Rattle.std.proofs.Common.{◌≡◌, ◌≢◌, ℕ, suc, Bool, true, false, ◌+◌, ◌<◌, ◌≤◌, ◌++◌, List, [], ◌∷◌, length, take, drop, get_or, Some, None, Ok, Err, refl, sym, ap, ◌∙◌, arith, add-one, drop-cons, length-drop}
use Rattle.std.specs.Option.{option_map}
use Rattle.std.specs.List.{onto_first, before_first, after_first, position_or_len}
use Rattle.std.proofs.Math.Numerals.{one-add}
use Rattle.goasm_list.specs.declared.line.ListLine.{ListLine}
use Rattle.goasm_list.specs.declared.fault.ListNo.{ListNo}
use Rattle.goasm_list.specs.declared.fault.ListNo.TheVariants.{Q1, Memory}
use Rattle.goasm_list.specs.Texts.{is_newline, texts_of}
use Rattle.goasm_list.specs.Form.{form_of}
use Rattle.goasm_list.specs.Rules.{refuses}
use Rattle.goasm_list.specs.Lists.{form_at, line_in, lines_in, refused_at, refused_line, refusal_of, list_of}
use Rattle.goasm_list.specs.Reader.{Follows}
use Rattle.goasm_base.specs.Refusals.{first_below}
use Rattle.goasm_base.proofs.RefusalLemmas.{below_zero, below_next, below_found}

-- the first line of bytes that aren't empty, and those behind it
abbrev Begins : List ℕ → Type 0
Begins bytes = texts_of bytes ≡ before_first is_newline bytes ∷ texts_of (after_first is_newline bytes)

-- one byte that is no newline goes to the first line of those behind it
joined : (byte : ℕ) (bytes : List ℕ) (place later : ℕ) → place ≡ suc later
    → (byte ∷ take later bytes) ∷ texts_of (drop (later + 1) bytes) ≡ take place (byte ∷ bytes) ∷ texts_of (drop (place + 1) (byte ∷ bytes))
joined byte bytes place later is = simp (is, add-one)

past_one : (byte : ℕ) (bytes : List ℕ) → is_newline byte ≡ false
    → position_or_len is_newline (byte ∷ bytes) ≡ suc (position_or_len is_newline bytes)
past_one byte bytes is = rw (is, one-add) refl

begun : (byte : ℕ) (newline : Bool) (bytes : List ℕ) → is_newline byte ≡ newline
    → (0 < length bytes → Begins bytes) → Begins (byte ∷ bytes)
unfolding texts_of
begun byte true bytes is later = rw is refl
begun byte false [] is later = rw is refl
begun byte false (next ∷ bytes) is later =
    let goes : texts_of (byte ∷ next ∷ bytes) ≡ onto_first byte (texts_of (next ∷ bytes)) = rw is refl in
    goes ∙ ap (onto_first byte) (later (omega arith))
    ∙ joined byte (next ∷ bytes) _ _ (past_one byte (next ∷ bytes) is)

pub first_text : (bytes : List ℕ) → 0 < length bytes → Begins bytes
first_text [] some = absurd (omega arith)
first_text (byte ∷ bytes) some = begun byte (is_newline byte) bytes refl (first_text bytes)

pub text_here : (texts : List (List ℕ)) (index : ℕ) (rest : List ℕ) → 0 < length rest
    → drop index texts ≡ texts_of rest → index < length texts
    → (get_or texts index [] ≡ before_first is_newline rest) × (drop (index + 1) texts ≡ texts_of (after_first is_newline rest))
text_here texts index rest some behind inside =
    let whole : get_or texts index [] ∷ drop (suc index) texts ≡ before_first is_newline rest ∷ texts_of (after_first is_newline rest)
    = sym (drop-cons texts index [] inside) ∙ behind ∙ first_text rest some in
    (cc, ap (λ next. drop next texts) (add-one index) ∙ cc)

-- a line that isn't refused, and one that is
passes : (texts : List (List ℕ)) (index : ℕ)
    → refuses (lines_in index texts) (form_at texts index) ≡ false → refused_at texts index ≡ None
passes texts index here = rw here refl

stops : (texts : List (List ℕ)) (index : ℕ)
    → refuses (lines_in index texts) (form_at texts index) ≡ true → refused_at texts index ≡ Some (index + 1)
stops texts index here = rw here refl

pub lines_next : (texts : List (List ℕ)) (index : ℕ)
    → lines_in (index + 1) texts ≡ lines_in index texts ++ line_in (index + 1) (form_at texts index)
unfolding lines_in
lines_next texts index = ap (λ count. lines_in count texts) (add-one index)

-- what is known once this many lines were read, with these bytes behind them, and none was refused
pub record Reached (bytes : List ℕ) (number : ℕ) (rest : List ℕ) (read : List ListLine) : Type 0 where
  pub behind : drop number (texts_of bytes) ≡ texts_of rest
  pub count : number + length (texts_of rest) ≡ length (texts_of bytes)
  pub room : number + length rest ≤ length bytes
  pub lines : read ≡ lines_in number (texts_of bytes)
  pub none : first_below number (refused_at (texts_of bytes)) ≡ None

pub reached_none : (bytes : List ℕ) → Reached bytes 0 bytes []
unfolding lines_in
reached_none bytes = record { behind = refl; count = omega arith; room = omega arith; lines = refl; none = below_zero (refused_at (texts_of bytes)) }

pub reached_all : (bytes : List ℕ) (number : ℕ) (rest : List ℕ) (lines : List ListLine)
    → Reached bytes number rest lines → length rest ≡ 0 → (refusal_of bytes ≡ None) × (lines ≡ list_of bytes)
unfolding refused_line list_of texts_of
reached_all bytes number [] lines reached none =
    let all : number ≡ length (texts_of bytes) = omega (arith, reached.count) in
    (ap (option_map Q1) (rw all at reached.none), rw all at reached.lines)
reached_all bytes number (byte ∷ rest) lines reached none = absurd (omega arith)

-- the next line's text and the bytes behind it
turn : (bytes : List ℕ) (number : ℕ) (rest : List ℕ) (lines : List ListLine) → Reached bytes number rest lines → 0 < length rest
    → (number < length (texts_of bytes))
    × (get_or (texts_of bytes) number [] ≡ before_first is_newline rest)
    × (drop (number + 1) (texts_of bytes) ≡ texts_of (after_first is_newline rest))
    × (number + 1 + length (texts_of (after_first is_newline rest)) ≡ length (texts_of bytes))
    × (number + 1 + length (after_first is_newline rest) ≤ length bytes)
turn bytes number rest lines reached some =
    let first : Begins rest = first_text rest some in
    let longer : length (texts_of rest) ≡ suc (length (texts_of (after_first is_newline rest))) = ap length first in
    let inside : number < length (texts_of bytes) = omega (arith, reached.count) in
    let here = text_here (texts_of bytes) number rest some reached.behind inside in
    (inside, here.0, here.1, omega (arith, reached.count), omega (arith, reached.room, length-drop (position_or_len is_newline rest + 1) rest))

pub reached_next : (bytes : List ℕ) (number : ℕ) (rest text behind : List ℕ) (lines next : List ListLine)
    → Reached bytes number rest lines → 0 < length rest
    → text ≡ before_first is_newline rest → behind ≡ after_first is_newline rest
    → Follows (Ok next) lines (number + 1) (form_of text)
    → Reached bytes (number + 1) behind next
reached_next bytes number rest text behind lines next reached some is after follows =
    let here = turn bytes number rest lines reached some in
    let form : form_of text ≡ form_at (texts_of bytes) number = ap form_of (is ∙ sym here.1) in
    record {
      behind = rw after here.2;
      count = rw after here.3;
      room = rw after here.4;
      lines = follows.1 ∙ rw (form, reached.lines) (sym (lines_next (texts_of bytes) number));
      none = below_next (refused_at (texts_of bytes)) number reached.none
          (passes (texts_of bytes) number (rw (reached.lines, form) at follows.0));
    }

pub reached_refused : (bytes : List ℕ) (number : ℕ) (rest text : List ℕ) (lines : List ListLine) (no : ListNo)
    → Reached bytes number rest lines → 0 < length rest → text ≡ before_first is_newline rest
    → Follows (Err no) lines (number + 1) (form_of text)
    → no ≢ Memory → refusal_of bytes ≡ Some no
unfolding refused_line
reached_refused bytes number rest text lines (Q1 refused) reached some is follows other =
    let here = turn bytes number rest lines reached some in
    let form : form_of text ≡ form_at (texts_of bytes) number = ap form_of (is ∙ sym here.1) in
    let found : refused_line bytes ≡ Some (number + 1)
    = below_found (refused_at (texts_of bytes)) number (length (texts_of bytes)) (number + 1) here.0 reached.none
    (stops (texts_of bytes) number (rw (reached.lines, form) at follows.0)) in
    rw (follows.1, found) refl
reached_refused bytes number rest text lines Memory reached some is follows other = absurd (other refl)

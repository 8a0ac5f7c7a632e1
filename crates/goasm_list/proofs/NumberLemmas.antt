use Rattle.std.proofs.Common.{ℕ, zero, suc, true, false, ◌+◌, ◌<◌, ◌≤◌, List, [], ◌∷◌, length, arith, add-one, if◌then◌else◌}
use Rattle.std.specs.List.{onto_first}
use Rattle.std.proofs.lemmas.List.Elements.{All-nil, All-cons, All-append, All-weaker}
use Rattle.goasm_list.specs.declared.line.ListLine.{ListLine}
use Rattle.goasm_list.specs.Texts.{is_newline, texts_of}
use Rattle.goasm_list.specs.Form.{Form, Skipped, Line, Faulty}
use Rattle.goasm_list.specs.Lists.{form_at, line_of, line_in, lines_in, list_of}
use Rattle.goasm_list.specs.Sound.{AreWithin}

abbrev IsWithin : ℕ → ListLine → Type 0
IsWithin most line = (0 < line.line) × (line.line ≤ most)

-- no line is numbered past the last
within_more : (most more : ℕ) (lines : List ListLine) → most ≤ more → AreWithin most lines → AreWithin more lines
within_more most more lines less within =
    All-weaker (IsWithin most) (IsWithin more) (λ line is. (is.0, omega (arith, is.1))) lines within

within_one : (number : ℕ) (form : Form) → 0 < number → AreWithin number (line_in number form)
within_one number Skipped some = All-nil (IsWithin number)
within_one number (Line parts) some =
    All-cons (IsWithin number) (line_of number parts) [] (some, omega arith) (All-nil (IsWithin number))
within_one number Faulty some = All-nil (IsWithin number)

lines_within : (count : ℕ) (texts : List (List ℕ)) → AreWithin count (lines_in count texts)
unfolding lines_in
lines_within zero texts = All-nil (IsWithin zero)
lines_within (suc count) texts =
    rw (← add-one count)
    (All-append (IsWithin (count + 1)) (lines_in count texts) (line_in (count + 1) (form_at texts count))
    (within_more count (count + 1) (lines_in count texts) (omega arith) (lines_within count texts))
    (within_one (count + 1) (form_at texts count) (omega arith)))

-- each line takes a byte at least
length-onto_first : (byte : ℕ) (texts : List (List ℕ)) → length (onto_first byte texts) ≤ length texts + 1
length-onto_first byte [] = omega arith
length-onto_first byte (text ∷ texts) = omega arith

texts_fit : (bytes : List ℕ) → length (texts_of bytes) ≤ length bytes
unfolding texts_of
texts_fit [] = omega arith
texts_fit (byte ∷ bytes) =
    elim (is_newline byte) as (λ newline. length (if newline then [] ∷ texts_of bytes else onto_first byte (texts_of bytes)) ≤ suc (length bytes)) [
      | true ↦ omega (arith, texts_fit bytes)
      | false ↦ omega (arith, texts_fit bytes, length-onto_first byte (texts_of bytes))
    ]

pub list_within : (bytes : List ℕ) → AreWithin (length bytes) (list_of bytes)
unfolding list_of
list_within bytes =
    within_more _ _ _ (texts_fit bytes) (lines_within (length (texts_of bytes)) (texts_of bytes))

-- The form of a line's text: `asm F`, `stub F`, `include F`, `define N V`, `outside SYMBOL ADDRESS`,
-- `entry SYMBOL`, nothing, or a comment.
use Rattle.std.specs.Prelude.{ℕ, Bool, List, [], ◌==◌, ◌&&◌, not, slice_index, Option, Some, None, codes, bytes_eq, if◌then◌else◌}
use Rattle.std.specs.Option.{option_and_then}
use Rattle.std.specs.List.{list_any}
use Rattle.std.specs.Str.{is_utf8}
use Rattle.goasm_base.specs.Ascii.{number_sign}
use Rattle.goasm_base.specs.Numbers.{number_of}
use Rattle.goasm_list.specs.declared.line.LineKind.{LineKind}
use Rattle.goasm_list.specs.declared.line.LineKind.TheVariants.{Asm, Stub, Include, Define, Outside, Entry}
use Rattle.goasm_list.specs.Words.{first_word, behind_word, is_empty}
use Rattle.goasm_list.specs.Symbols.{is_symbol, is_outside_address}

-- what a line says: its kind, what it names, the body of a definition, and an outside address
pub record Parts : Type 0 where
  pub kind : LineKind
  pub name : List ℕ
  pub rest : List ℕ
  pub at : ℕ

pub data Form : Type 0 where
  -- a blank line or a comment
  Skipped : Form
  Line : (parts : Parts) → Form
  -- none of the forms
  Faulty : Form

-- the kind of line that a first word tells
unfoldable pub kind_of : List ℕ → Option LineKind
kind_of word =
    if bytes_eq word (codes "asm") then Some Asm
    else (if bytes_eq word (codes "stub") then Some Stub
    else (if bytes_eq word (codes "include") then Some Include
    else (if bytes_eq word (codes "define") then Some Define
    else (if bytes_eq word (codes "outside") then Some Outside
    else (if bytes_eq word (codes "entry") then Some Entry
    else None)))))

-- a line that names a file: one word
unfoldable pub file_parts : LineKind → List ℕ → Option Parts
file_parts kind text =
    if not (is_empty (first_word text)) && is_empty (behind_word text)
    then Some (record { kind = kind; name = first_word text; rest = []; at = 0 })
    else None

-- a name and its body: the rest of the line, which may be empty
unfoldable pub define_parts : List ℕ → Option Parts
define_parts text =
    if not (is_empty (first_word text))
    then Some (record { kind = Define; name = first_word text; rest = behind_word text; at = 0 })
    else None

-- a symbol at an address
unfoldable pub outside_at : List ℕ → ℕ → Option Parts
outside_at name at =
    if is_symbol name && is_outside_address at
    then Some (record { kind = Outside; name = name; rest = []; at = at })
    else None

-- a symbol and its address, in the form of a number
unfoldable pub outside_parts : List ℕ → Option Parts
outside_parts text =
    if is_empty (behind_word (behind_word text))
    then option_and_then (outside_at (first_word text)) (number_of (first_word (behind_word text)))
    else None

-- a symbol
unfoldable pub entry_parts : List ℕ → Option Parts
entry_parts text =
    if is_symbol (first_word text) && is_empty (behind_word text)
    then Some (record { kind = Entry; name = first_word text; rest = []; at = 0 })
    else None

-- what a line of a kind says, by the text behind its first word
unfoldable pub parts_of : LineKind → List ℕ → Option Parts
parts_of Asm text = file_parts Asm text
parts_of Stub text = file_parts Stub text
parts_of Include text = file_parts Include text
parts_of Define text = define_parts text
parts_of Outside text = outside_parts text
parts_of Entry text = entry_parts text

abbrev pub line_or_faulty : Option Parts → Form
line_or_faulty (Some parts) = Line parts
line_or_faulty None = Faulty

-- the form of a text that is no comment
unfoldable pub worded_form : List ℕ → Form
worded_form text =
    if is_empty (first_word text) then Skipped
    else line_or_faulty (option_and_then (λ kind. parts_of kind (behind_word text)) (kind_of (first_word text)))

abbrev pub is_comment : List ℕ → Bool
is_comment text = slice_index text 0 == number_sign

-- A text has a form only where it is UTF-8. One that begins with `#` is a comment; in any other no byte is 0.
unfoldable pub form_of : List ℕ → Form
form_of text =
    if not (is_utf8 text) then Faulty
    else (if is_comment text then Skipped
    else (if list_any (λ byte. byte == 0) text then Faulty
    else worded_form text))

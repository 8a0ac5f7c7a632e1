-- The lines of a build list, and the first one that is refused.
use Rattle.std.specs.Prelude.{ℕ, zero, suc, List, [], ◌∷◌, ◌++◌, ◌+◌, length, slice_index_or, Option, Some, None, if◌then◌else◌}
use Rattle.std.specs.Option.{option_map}
use Rattle.goasm_base.specs.Refusals.{first_below}
use Rattle.goasm_list.specs.declared.line.ListLine.{ListLine}
use Rattle.goasm_list.specs.declared.fault.ListNo.{ListNo}
use Rattle.goasm_list.specs.declared.fault.ListNo.TheVariants.{Q1}
use Rattle.goasm_list.specs.Texts.{texts_of}
use Rattle.goasm_list.specs.Form.{Parts, Form, Skipped, Line, Faulty, form_of}
use Rattle.goasm_list.specs.Rules.{refuses}

-- the form of the line that stands behind this many others
abbrev pub form_at : List (List ℕ) → ℕ → Form
form_at texts index = form_of (slice_index_or texts index [])

abbrev pub line_of : ℕ → Parts → ListLine
line_of number parts =
    record { line = number; kind = parts.kind; name = parts.name; rest = parts.rest; at = parts.at }

-- the line of a form, where it is one
abbrev pub line_in : ℕ → Form → List ListLine
line_in number Skipped = []
line_in number (Line parts) = line_of number parts ∷ []
line_in number Faulty = []

-- what the first so many texts say, in order; their numbers count from 1
unfoldable pub lines_in : ℕ → List (List ℕ) → List ListLine
lines_in zero texts = []
lines_in (suc count) texts = lines_in count texts ++ line_in (count + 1) (form_at texts count)

-- the number of the line that stands behind this many others, where it is refused
abbrev pub refused_at : List (List ℕ) → ℕ → Option ℕ
refused_at texts index = if refuses (lines_in index texts) (form_at texts index) then Some (index + 1) else None

-- the number of the first line that is refused
unfoldable pub refused_line : List ℕ → Option ℕ
refused_line bytes = first_below (length (texts_of bytes)) (refused_at (texts_of bytes))

-- the lines that a list's bytes say
unfoldable pub list_of : List ℕ → List ListLine
list_of bytes = lines_in (length (texts_of bytes)) (texts_of bytes)

-- how a list is refused
abbrev pub refusal_of : List ℕ → Option ListNo
refusal_of bytes = option_map Q1 (refused_line bytes)

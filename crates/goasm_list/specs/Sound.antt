-- What a build may rely on in a list that was read.
use Rattle.std.specs.Prelude.{◌≡◌, ℕ, Bool, false, List, ◌<◌, ◌≤◌, ◌==◌, ◌&&◌, not, All, AllPairs, IsTrue, bytes_eq}
use Rattle.goasm_list.specs.declared.line.LineKind.{LineKind}
use Rattle.goasm_list.specs.declared.line.LineKind.TheVariants.{Asm, Stub, Include, Define, Outside, Entry}
use Rattle.goasm_list.specs.declared.line.ListLine.{ListLine}
use Rattle.goasm_list.specs.Words.{is_empty}
use Rattle.goasm_list.specs.Symbols.{is_symbol, is_outside_address}
use Rattle.goasm_list.specs.Form.{Parts, Form, Skipped, Line, Faulty}
use Rattle.goasm_list.specs.Rules.{most_files, file_count, is_outside, is_entry}

-- a line of this kind has its parts, and no others
abbrev pub has_parts : LineKind → List ℕ → List ℕ → ℕ → Bool
has_parts Asm name rest at = not (is_empty name) && is_empty rest && at == 0
has_parts Stub name rest at = not (is_empty name) && is_empty rest && at == 0
has_parts Include name rest at = not (is_empty name) && is_empty rest && at == 0
has_parts Define name rest at = not (is_empty name) && at == 0
has_parts Outside name rest at = is_symbol name && is_empty rest && is_outside_address at
has_parts Entry name rest at = is_symbol name && is_empty rest && at == 0

-- what a line says has the parts of its kind
abbrev pub IsWhole : Parts → Type 0
IsWhole parts = IsTrue (has_parts parts.kind parts.name parts.rest parts.at)

-- the same of the line of a form
abbrev pub IsWholeForm : Form → Type 0
IsWholeForm Skipped = Unit {0}
IsWholeForm (Line parts) = IsWhole parts
IsWholeForm Faulty = Unit {0}

-- a line of this kind and name can't stand behind the earlier one: both give one outside name, or are entries
abbrev pub clashes : ListLine → LineKind → List ℕ → Bool
clashes earlier Outside name = is_outside earlier.kind && bytes_eq earlier.name name
clashes earlier Entry name = is_entry earlier.kind
clashes earlier _ name = false

-- it names no more files than a list may, each line has its parts, and no two clash
pub record IsSound (lines : List ListLine) : Type 0 where
  pub files : file_count lines ≤ most_files
  pub parts : All (λ line. IsTrue (has_parts line.kind line.name line.rest line.at)) lines
  pub apart : AllPairs (λ earlier later. clashes earlier later.kind later.name ≡ false) lines

-- each line's number lies from 1 up to this one
abbrev pub AreWithin : ℕ → List ListLine → Type 0
AreWithin most lines = All (λ line. (0 < line.line) × (line.line ≤ most)) lines

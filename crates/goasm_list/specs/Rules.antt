-- Which lines a list refuses.
use Rattle.std.specs.Prelude.{ℕ, Bool, true, false, List, ◌&&◌, ◌||◌, nat_le, count_by, bytes_eq}
use Rattle.std.specs.List.{list_any}
use Rattle.goasm_list.specs.declared.line.LineKind.{LineKind}
use Rattle.goasm_list.specs.declared.line.LineKind.TheVariants.{Asm, Stub, Include, Define, Outside, Entry}
use Rattle.goasm_list.specs.declared.line.ListLine.{ListLine}
use Rattle.goasm_list.specs.Form.{Form, Skipped, Line, Faulty}

-- how many files a list may name
abbrev pub most_files : ℕ
most_files = 1000

-- a line of this kind names a file to read
abbrev pub names_file : LineKind → Bool
names_file Asm = true
names_file Stub = true
names_file Include = true
names_file _ = false

-- an outside symbol
abbrev pub is_outside : LineKind → Bool
is_outside Outside = true
is_outside _ = false

-- the entry
abbrev pub is_entry : LineKind → Bool
is_entry Entry = true
is_entry _ = false

-- how many files these lines name
abbrev pub file_count : List ListLine → ℕ
file_count lines = count_by (λ line. names_file line.kind) lines

-- one of these lines gives this outside name
abbrev pub has_outside : List ListLine → List ℕ → Bool
has_outside lines name = list_any (λ line. is_outside line.kind && bytes_eq line.name name) lines

-- one of these lines is an entry
abbrev pub has_entry : List ListLine → Bool
has_entry lines = list_any (λ line. is_entry line.kind) lines

-- Stub files can't be read yet, so a line that names one is refused. Where they can, this rule goes.
abbrev pub is_unread : LineKind → Bool
is_unread Stub = true
is_unread _ = false

-- the lines before it leave no room for a line of this kind and name: they name as many files as a list may, or
-- give the outside name, or have an entry
abbrev pub is_excess : List ListLine → LineKind → List ℕ → Bool
is_excess before Asm name = nat_le most_files (file_count before)
is_excess before Stub name = nat_le most_files (file_count before)
is_excess before Include name = nat_le most_files (file_count before)
is_excess before Define name = false
is_excess before Outside name = has_outside before name
is_excess before Entry name = has_entry before

-- whether a line of this form is refused behind these lines
abbrev pub refuses : List ListLine → Form → Bool
refuses before Skipped = false
refuses before (Line parts) = is_unread parts.kind || is_excess before parts.kind parts.name
refuses before Faulty = true

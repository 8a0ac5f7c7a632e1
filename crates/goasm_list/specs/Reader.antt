-- What a reader keeps beside the lines that it read, so that no line is held against all earlier ones.
use Rattle.std.specs.Prelude.{◌≡◌, ℕ, Bool, List, ◌≤◌, ◌++◌, Result, Ok, Err, false, true}
use Rattle.goasm_base.specs.NameSet.{is_among}
use Rattle.goasm_list.specs.declared.line.ListLine.{ListLine}
use Rattle.goasm_list.specs.declared.fault.ListNo.{ListNo}
use Rattle.goasm_list.specs.declared.fault.ListNo.TheVariants.{Q1, Memory}
use Rattle.goasm_list.specs.Form.{Form}
use Rattle.goasm_list.specs.Rules.{most_files, file_count, has_outside, has_entry, refuses}
use Rattle.goasm_list.specs.Sound.{IsSound}
use Rattle.goasm_list.specs.Lists.{line_in}

-- the outside names, the number of files, whether there is an entry, and what holds of all that was read
pub record Keeps (lines : List ListLine) (outside : List (List ℕ)) (files : ℕ) (entry : Bool) : Type 0 where
  pub names : (name : List ℕ) → is_among name outside ≡ has_outside lines name
  pub count : files ≡ file_count lines
  pub room : files ≤ most_files
  pub entered : entry ≡ has_entry lines
  pub sound : IsSound lines

-- behind these lines one of this form is read, or refused by its number; memory may be wanting
abbrev pub Follows : Result (List ListLine) ListNo → List ListLine → ℕ → Form → Type 0
Follows (Ok lines) before number form = (refuses before form ≡ false) × (lines ≡ before ++ line_in number form)
Follows (Err (Q1 refused)) before number form = (refuses before form ≡ true) × (refused ≡ number)
Follows (Err Memory) before number form = Unit {0}

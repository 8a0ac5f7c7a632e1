-- The parts of a build: the files that its list names, which are all read in the list's order, and the values of macros.
use Rattle.std.specs.Prelude.{ℕ, List, [], ◌∷◌, ◌++◌, ◌+◌}
use Rattle.goasm_list.specs.declared.line.LineKind.{LineKind}
use Rattle.goasm_list.specs.declared.line.LineKind.TheVariants.{Asm, Stub, Include, Define, Outside, Entry}
use Rattle.goasm_list.specs.declared.line.ListLine.{ListLine}
use Rattle.goasm_run.specs.declared.part.Role.{Role}
use Rattle.goasm_run.specs.declared.part.Role.TheVariants as roles
use Rattle.goasm_run.specs.declared.part.Part.{Part}
use Rattle.goasm_run.specs.Limits.{source_limit}
use Rattle.goasm_run.specs.Plan.{Plan, Ask}

-- a file by its number, from 1
abbrev pub file_part : Role → ℕ → ListLine → List ℕ → Part
file_part role number line bytes = record { role = role; file = number; line = 1; name = line.name; bytes = bytes }

-- a value stands in the list
abbrev pub value_part : ListLine → Part
value_part line = record { role = roles.Value; file = 0; line = line.line; name = line.name; bytes = line.rest }

-- a line that names a file asks for it; the value of a macro is in the list. Stub files aren't in a list that was read.
abbrev pub ask_line : LineKind → List ℕ → (Role → List ℕ → Plan) → Plan → Plan → Plan
ask_line Asm name read value skip = Ask name source_limit (read roles.Source)
ask_line Include name read value skip = Ask name source_limit (read roles.Include)
ask_line Define name read value skip = value
ask_line Stub name read value skip = skip
ask_line Outside name read value skip = skip
ask_line Entry name read value skip = skip

-- the files of these lines are asked for, behind the parts that there are; the plan goes on by all parts
abbrev pub ask_parts : ℕ → List ListLine → List Part → (List Part → Plan) → Plan
ask_parts number [] parts next = next parts
ask_parts number (line ∷ lines) parts next =
    ask_line line.kind line.name
    (λ role bytes. ask_parts (number + 1) lines (parts ++ file_part role number line bytes ∷ []) next)
    (ask_parts number lines (parts ++ value_part line ∷ []) next)
    (ask_parts number lines parts next)

-- The groups of an image's symbols, in their order: a symbol's info byte and its section tell its group.
use Rattle.std.specs.Prelude.{ℕ, Bool, true, false, ◌==◌, Option, Some, None, if◌then◌else◌}
use Rattle.elf_image.specs.declared.group.Group.{Group}
use Rattle.elf_image.specs.declared.group.Group.TheVariants.{LocalFunctions, LocalValues, GlobalFunctions, GlobalValues, Outside}

abbrev pub rank : Group → ℕ
rank LocalFunctions = 0
rank LocalValues = 1
rank GlobalFunctions = 2
rank GlobalValues = 3
rank Outside = 4

-- the binding in the upper four bits, 0 for local and 1 for global; the type in the lower four, 0 for none, 1 for a value
-- and 2 for a function
abbrev pub info_of : Group → ℕ
info_of LocalFunctions = 0x02
info_of LocalValues = 0x01
info_of GlobalFunctions = 0x12
info_of GlobalValues = 0x11
info_of Outside = 0x10

-- the group that an info byte tells
abbrev pub group_of : ℕ → Option Group
group_of info =
    if info == 0x02 then Some LocalFunctions else
    if info == 0x01 then Some LocalValues else
    if info == 0x12 then Some GlobalFunctions else
    if info == 0x11 then Some GlobalValues else
    if info == 0x10 then Some Outside else None

-- the section of the text is 1, that of the values 3; what lies outside has an absolute address
abbrev pub section_of : Group → ℕ
section_of LocalFunctions = 1
section_of LocalValues = 3
section_of GlobalFunctions = 1
section_of GlobalValues = 3
section_of Outside = 0xFFF1

abbrev pub is_function : Group → Bool
is_function LocalFunctions = true
is_function LocalValues = false
is_function GlobalFunctions = true
is_function GlobalValues = false
is_function Outside = false

abbrev pub is_local : Group → Bool
is_local LocalFunctions = true
is_local LocalValues = true
is_local GlobalFunctions = false
is_local GlobalValues = false
is_local Outside = false

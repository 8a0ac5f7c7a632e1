-- `lookup TABLE PC`: the function, file, line and stack depth that a function table gives to an address.
use Rattle.std.specs.Prelude.{ℕ, List, ◌++◌, nat_lt, length, Option, Some, None, codes, if◌then◌else◌}
use Rattle.std.specs.Option.{unwrap_or}
use Rattle.goasm_base.specs.Numbers.{decimal_text}
use Rattle.pcvalue.specs.declared.answer.Answer.{Answer}
use Rattle.pcvalue.specs.declared.answer.Answer.TheVariants.{Absent, Value, Past, Bad}
use Rattle.pclntab.specs.declared.fault.TableNo.{TableNo}
use Rattle.pclntab.specs.Faults.{table_fault}
use Rattle.pclntab.specs.Func.{func_at, name_of, depth_at, line_at, file_at}
use Rattle.goasm_run.specs.Limits.{table_limit}
use Rattle.goasm_run.specs.Plan.{Plan, Ask, Tell, Refuse}
use Rattle.goasm_text.specs.Lines.{newline, table_line}
use Rattle.goasm_run.specs.Lines.{too_long_line, no_function_line}

-- a value in decimal, or `?` where there is none
abbrev pub value_text : Answer → List ℕ
value_text (Value value) = decimal_text value
value_text Absent = codes "?"
value_text Past = codes "?"
value_text Bad = codes "?"

-- `NAME FILE:LINE depth D`, with `?` for what the table doesn't tell
unfoldable pub lookup_text : List ℕ → ℕ → ℕ → List ℕ
lookup_text bytes index pc =
    unwrap_or (name_of bytes index) (codes "?") ++ codes " "
    ++ unwrap_or (file_at bytes index pc) (codes "?") ++ codes ":"
    ++ value_text (line_at bytes index pc) ++ codes " depth "
    ++ value_text (depth_at bytes index pc) ++ newline

-- over the function that has the address
abbrev pub lookup_in : List ℕ → ℕ → List ℕ → Option ℕ → Plan
lookup_in name pc bytes (Some index) = Tell (lookup_text bytes index pc)
lookup_in name pc bytes None = Refuse (no_function_line name pc)

-- over the table's first fault
abbrev pub lookup_over : List ℕ → ℕ → List ℕ → Option TableNo → Plan
lookup_over name pc bytes (Some fault) = Refuse (table_line name fault)
lookup_over name pc bytes None = lookup_in name pc bytes (func_at bytes pc)

-- over the bytes that were read
unfoldable pub lookup_answer : List ℕ → ℕ → List ℕ → Plan
lookup_answer name pc bytes =
    if nat_lt table_limit (length bytes) then Refuse (too_long_line name)
    else lookup_over name pc bytes (table_fault bytes)

abbrev pub lookup_plan : List ℕ → ℕ → Plan
lookup_plan name pc = Ask name table_limit (lookup_answer name pc)

-- A build list that is read and judged before the files that it names.
use Rattle.std.specs.Prelude.{ℕ, List, nat_lt, length, Option, Some, None, if◌then◌else◌}
use Rattle.goasm_list.specs.declared.line.ListLine.{ListLine}
use Rattle.goasm_list.specs.Lists.{refused_line, list_of}
use Rattle.goasm_run.specs.Limits.{list_limit}
use Rattle.goasm_run.specs.Plan.{Plan, Ask, Refuse}
use Rattle.goasm_run.specs.Lines.{too_long_line, list_line}

-- over the number of the first line that is refused
abbrev pub over_refusal : List ℕ → List ℕ → (List ListLine → Plan) → Option ℕ → Plan
over_refusal name bytes next (Some number) = Refuse (list_line name number)
over_refusal name bytes next None = next (list_of bytes)

-- over the bytes that were read; the plan goes on by the list's lines
unfoldable pub list_answer : List ℕ → (List ListLine → Plan) → List ℕ → Plan
list_answer name next bytes =
    if nat_lt list_limit (length bytes) then Refuse (too_long_line name) else over_refusal name bytes next (refused_line bytes)

abbrev pub list_plan : List ℕ → (List ListLine → Plan) → Plan
list_plan name next = Ask name list_limit (list_answer name next)

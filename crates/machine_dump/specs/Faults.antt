-- The first fault of a dump, by its line. Numbers of lines count from 1.
use Rattle.std.specs.Prelude.{◌≡◌, Result, Ok, Err, ℕ, zero, suc, Bool, true, List, ◌+◌, length, drop, nat_lt, Option, Some, None, if◌then◌else◌}
use Rattle.std.specs.Option.{option_map, option_or, option_and_then}
use Rattle.goasm_base.specs.Refusals.{first_below}
use Rattle.machine_dump.specs.declared.fault.DumpNo.{DumpNo}
use Rattle.machine_dump.specs.declared.fault.DumpNo.TheVariants.{DU1, DU2}
use Rattle.machine_dump.specs.Lines.{lines_of, is_ended, line_at}
use Rattle.machine_dump.specs.Form.{Range, end_of, machine_of, pc_of, sp_of, link_of, range_of}

-- the answer is Ok exactly where there is no fault, and otherwise the fault
abbrev pub Judges : {T : Type 0} → Result T DumpNo → Option DumpNo → Type 0
Judges (Ok value) fault = fault ≡ None
Judges (Err refusal) fault = fault ≡ Some refusal

-- DU1 with a line's number, where it doesn't say what it has to
abbrev pub unless : {A : Type 0} → ℕ → Option A → Option DumpNo
unless number None = Some (DU1 number)
unless number (Some value) = None

-- the numbers that the first four lines say
abbrev pub machine_in : List ℕ → Option ℕ
machine_in bytes = machine_of (line_at (lines_of bytes) 0)

abbrev pub pc_in : List ℕ → Option ℕ
pc_in bytes = pc_of (line_at (lines_of bytes) 1)

abbrev pub sp_in : List ℕ → Option ℕ
sp_in bytes = sp_of (line_at (lines_of bytes) 2)

-- the first line bears on the fourth
abbrev pub link_in : List ℕ → Option ℕ
link_in bytes = option_and_then (λ machine. link_of machine (line_at (lines_of bytes) 3)) (machine_in bytes)

-- The first four lines. One that is missing is at fault where it belongs: an empty text has no form.
unfoldable pub header_fault : List ℕ → Option DumpNo
header_fault bytes =
    option_or (unless 1 (machine_in bytes))
    (option_or (unless 2 (pc_in bytes))
    (option_or (unless 3 (sp_in bytes))
    (unless 4 (link_in bytes))))

-- whether an address is above the end of the range before it, if there is one
abbrev pub is_apart : Option ℕ → ℕ → Bool
is_apart None first = true
is_apart (Some end) first = nat_lt end first

abbrev pub fault_behind : Option ℕ → ℕ → Option Range → Option DumpNo
fault_behind end number None = Some (DU1 number)
fault_behind end number (Some range) = if is_apart end range.first then None else Some (DU2 number)

-- the end of the range of the line before the one with this index
abbrev pub end_before : List (List ℕ) → ℕ → Option ℕ
end_before lines zero = None
end_before lines (suc index) = option_map end_of (range_of (line_at lines index))

-- the lines behind the first four
abbrev pub mem_lines : List ℕ → List (List ℕ)
mem_lines bytes = drop 4 (lines_of bytes)

-- what is wrong with one of them, by its index from 0
unfoldable pub mem_fault : List (List ℕ) → ℕ → Option DumpNo
mem_fault lines index = fault_behind (end_before lines index) (index + 5) (range_of (line_at lines index))

-- the first fault of the lines behind the first four; behind them, of a last line that no newline ends
abbrev pub body_fault : List (List ℕ) → Bool → Option DumpNo
body_fault lines ended =
    option_or (first_below (length lines) (mem_fault lines)) (if ended then None else Some (DU1 (length lines + 5)))

-- the first fault of a text, by its line; a text without a fault is a dump
unfoldable pub dump_fault : List ℕ → Option DumpNo
dump_fault bytes = option_or (header_fault bytes) (body_fault (mem_lines bytes) (is_ended bytes))

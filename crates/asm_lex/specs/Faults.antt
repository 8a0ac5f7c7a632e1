-- What is refused in a source, and which refusal comes first: by lines, and at one line the one with the lowest
-- number.
use Rattle.std.specs.Prelude.{◌≡◌, ℕ, Bool, List, ◌++◌, ◌==◌, length, take, position, Option, Some, None, if◌then◌else◌}
use Rattle.std.specs.Option.{option_map, option_to_list}
use Rattle.goasm_base.specs.Refusals as refusals
use Rattle.std.specs.Str.Lossy.{utf8_valid_len}
use Rattle.goasm_base.specs.declared.pos.Pos.{Pos}
use Rattle.asm_lex.specs.declared.fault.Cause.{Cause}
use Rattle.asm_lex.specs.declared.fault.Cause.TheVariants.{NotUtf8, Open, Form, Stray}
use Rattle.asm_lex.specs.declared.fault.Fault.{Fault}
use Rattle.asm_lex.specs.declared.refusal.LexNo.{LexNo}
use Rattle.asm_lex.specs.declared.refusal.LexNo.TheVariants.{L1, L2, L3, L4, Memory}
use Rattle.asm_lex.specs.Lines.{line_after}
use Rattle.asm_lex.specs.Cut.{cut_of}

abbrev pub fault_at : List ℕ → Cause → ℕ → Fault
fault_at bytes cause place = record { line = line_after 1 (take place bytes); cause = cause }

-- the first byte that isn't UTF-8, if there is one
unfoldable pub utf8_fault : List ℕ → Option Fault
utf8_fault bytes =
    if utf8_valid_len bytes == length bytes then None else Some (fault_at bytes NotUtf8 (utf8_valid_len bytes))

abbrev pub is_zero : ℕ → Bool
is_zero byte = byte == 0

-- the first zero byte, which may not even stand in a comment or a text
unfoldable pub zero_fault : List ℕ → Option Fault
zero_fault bytes = option_map (fault_at bytes Stray) (position is_zero bytes)

-- all that is refused in a source, also behind the first that is
abbrev pub faults_of : ℕ → List ℕ → List Fault
faults_of file bytes = option_to_list (utf8_fault bytes) ++ (option_to_list (zero_fault bytes) ++ (cut_of file bytes).faults)

-- the number of a refusal
abbrev pub number : Cause → ℕ
number NotUtf8 = 1
number Open = 2
number Form = 3
number Stray = 4

abbrev pub line_of : Fault → ℕ
line_of fault = fault.line

abbrev pub number_of : Fault → ℕ
number_of fault = number fault.cause

-- by lines, and at one line by the numbers
abbrev pub comes_before : Fault → Fault → Bool
comes_before one other = refusals.comes_before line_of number_of one other

abbrev pub earlier : Option Fault → Fault → Fault
earlier best fault = refusals.earlier line_of number_of best fault

-- the first of a fault that was found and of those in the list
abbrev pub first_after : Option Fault → List Fault → Option Fault
first_after best faults = refusals.first_after line_of number_of best faults

abbrev pub first_fault : List Fault → Option Fault
first_fault faults = refusals.first_of line_of number_of faults

abbrev pub refusal : ℕ → Fault → LexNo
refusal file fault = refusal_at fault.cause (record { file = file; line = fault.line }) where
  refusal_at : Cause → Pos → LexNo
  refusal_at NotUtf8 pos = L1 pos
  refusal_at Open pos = L2 pos
  refusal_at Form pos = L3 pos
  refusal_at Stray pos = L4 pos

-- the place of a refusal is in this file; want of memory has none
abbrev pub IsInFile : ℕ → LexNo → Type 0
IsInFile file (L1 pos) = pos.file ≡ file
IsInFile file (L2 pos) = pos.file ≡ file
IsInFile file (L3 pos) = pos.file ≡ file
IsInFile file (L4 pos) = pos.file ≡ file
IsInFile file Memory = Unit {0}

-- the first refusal of a source
abbrev pub refusal_of : ℕ → List ℕ → Option LexNo
refusal_of file bytes = option_map (refusal file) (first_fault (faults_of file bytes))

-- the refusal is that of a fault of the list, before which none of it comes
pub record IsFirstRefusal (file : ℕ) (faults : List Fault) (found : LexNo) : Type 0 where
  pub fault : Fault
  pub is : refusal file fault ≡ found
  pub first : refusals.IsFirst line_of number_of faults fault

-- `bytes TARGET FILE`: the instructions of raw code.
use Rattle.std.specs.Prelude.{ℕ, List, nat_lt, length, Option, Some, None, codes, if◌then◌else◌}
use Rattle.std.specs.Str.{bytes_eq}
use Rattle.amd64_code.specs.InstructionSet.{amd64}
use Rattle.amd64_code.specs.First.{first_in}
use Rattle.text_dis.specs.Reading.{raw_text}
use Rattle.goasm_run.specs.declared.architecture.Architecture.{Architecture}
use Rattle.goasm_run.specs.declared.architecture.Architecture.TheVariants.{Amd64}
use Rattle.goasm_run.specs.Limits.{code_limit}
use Rattle.goasm_run.specs.Plan.{Plan, Ask, Tell, Refuse}
use Rattle.goasm_run.specs.Lines.{too_long_line}

-- the architecture that a word names
unfoldable pub architecture_of : List ℕ → Option Architecture
architecture_of word = if bytes_eq word (codes "amd64") then Some Amd64 else None

-- a line for each instruction of the code, and for bytes that begin with none
unfoldable pub code_text : Architecture → List ℕ → List ℕ
code_text Amd64 bytes = raw_text amd64 1 first_in bytes

-- over the bytes that were read
unfoldable pub bytes_answer : Architecture → List ℕ → List ℕ → Plan
bytes_answer architecture name bytes =
    if nat_lt code_limit (length bytes) then Refuse (too_long_line name) else Tell (code_text architecture bytes)

abbrev pub bytes_plan : Architecture → List ℕ → Plan
bytes_plan architecture name = Ask name code_limit (bytes_answer architecture name)

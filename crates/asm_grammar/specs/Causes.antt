-- What is refused of a statement that has a form. A lower number comes first; 1 stands for a statement without a form,
-- and 3 and 8 are judged once the whole file is read.
use Rattle.std.specs.Prelude.{ℕ, nat_le, Option, Some, None, if◌then◌else◌}
use Rattle.asm_grammar.specs.declared.cause.Cause.{Cause}
use Rattle.asm_grammar.specs.declared.cause.Cause.TheVariants.{DuplicateLabel, NamelessArgument, ArgumentSizeMissing, DataOrder, ZeroDivisor, OutsideText, RawCode}

-- the number that a refusal is printed with
abbrev pub number : Cause → ℕ
number DuplicateLabel = 2
number NamelessArgument = 4
number ArgumentSizeMissing = 5
number DataOrder = 6
number ZeroDivisor = 7
number OutsideText = 9
number RawCode = 10

-- the lower one of a cause that was found and another
abbrev pub lower : Option Cause → Cause → Cause
lower None cause = cause
lower (Some other) cause = if nat_le (number other) (number cause) then other else cause

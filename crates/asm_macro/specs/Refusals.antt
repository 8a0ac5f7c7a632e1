-- What is refused.
use Rattle.std.specs.Prelude.{◌≡◌, ℕ, Option, Some, None, Result, Ok, Err, nat_lt, if◌then◌else◌}
use Rattle.goasm_base.specs.declared.pos.Pos.{Pos}
use Rattle.asm_macro.specs.declared.refusal.MacroNo.{MacroNo}
use Rattle.asm_macro.specs.declared.refusal.MacroNo.TheVariants.{M1, M2, M3, M4, M5, M6, M7, Memory}
use Rattle.asm_macro.specs.declared.cause.Cause.{Cause}
use Rattle.asm_macro.specs.declared.cause.Cause.TheVariants as causes

-- what comes next of an answer, or its refusal
infixl 10 ◌>>=◌
abbrev pub ◌>>=◌ : {A B : Type 0} → Result A MacroNo → (A → Result B MacroNo) → Result B MacroNo
(Ok value) >>= next = next value
(Err fault) >>= next = Err fault

-- all but want of memory
abbrev pub IsFault : MacroNo → Type 0
IsFault Memory = ⊥
IsFault (M1 pos) = Unit {0}
IsFault (M2 pos) = Unit {0}
IsFault (M3 pos) = Unit {0}
IsFault (M4 pos) = Unit {0}
IsFault (M5 pos) = Unit {0}
IsFault (M6 pos) = Unit {0}
IsFault (M7 pos) = Unit {0}

-- the answer is this refusal, unless that is want of memory, which may come in place of any answer
abbrev pub Refuses : {T : Type 0} → Result T MacroNo → MacroNo → Type 0
Refuses answer fault = IsFault fault → answer ≡ Err fault

-- the numbers in which the causes of one statement are compared
abbrev pub number : Cause → ℕ
number causes.ArgumentCount = 2
number causes.MissingArguments = 3
number causes.Nesting = 4
number causes.TooMany = 7

-- the lower one of a cause that was found, if any, and another
unfoldable pub lower : Option Cause → Cause → Cause
lower None cause = cause
lower (Some found) cause = if nat_lt (number cause) (number found) then cause else found

unfoldable pub refusal : Cause → Pos → MacroNo
refusal causes.ArgumentCount pos = M2 pos
refusal causes.MissingArguments pos = M3 pos
refusal causes.Nesting pos = M4 pos
refusal causes.TooMany pos = M7 pos

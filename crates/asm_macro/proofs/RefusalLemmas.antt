-- What holds of an answer, or of its refusal.
use Rattle.std.proofs.Common.{Bool, true, false, Result, Ok, Err, if◌then◌else◌}
use Rattle.asm_macro.specs.declared.refusal.MacroNo.{MacroNo}
use Rattle.asm_macro.specs.Refusals.{◌>>=◌}

abbrev pub Holds : {A : Type 0} → (A → Type 0) → (MacroNo → Type 0) → Result A MacroNo → Type 0
Holds P F (Ok value) = P value
Holds P F (Err fault) = F fault

pub holds_then : {A B : Type 0} (P : A → Type 0) (Q : B → Type 0) (F : MacroNo → Type 0) (answer : Result A MacroNo) (next : A → Result B MacroNo)
    → Holds P F answer → ((value : A) → P value → Holds Q F (next value)) → Holds Q F (answer >>= next)
holds_then P Q F (Ok value) next holds on = on value holds
holds_then P Q F (Err fault) next holds on = holds

-- what holds of both
pub holds_either : {A : Type 0} (P : A → Type 0) (test : Bool) (one other : A) → P one → P other → P (if test then one else other)
holds_either P true one other first second = first
holds_either P false one other first second = second

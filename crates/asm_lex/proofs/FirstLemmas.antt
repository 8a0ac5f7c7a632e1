-- The first of several faults, by their order.
use Rattle.std.proofs.Common.{◌≡◌, ℕ, List, [], Some, None, refl}
use Rattle.goasm_base.proofs.RefusalLemmas as refusals
use Rattle.asm_lex.specs.declared.fault.Fault.{Fault}
use Rattle.asm_lex.specs.Faults.{line_of, number_of, first_fault, refusal, IsFirstRefusal}

pub refused_first : (file : ℕ) (fault : Fault) (faults : List Fault) → first_fault faults ≡ Some fault
    → IsFirstRefusal file faults (refusal file fault)
refused_first file fault faults is =
    record { fault = fault; is = refl; first = refusals.first_found line_of number_of faults fault is }

-- where there is no first one, there is none
pub none_found : (faults : List Fault) → first_fault faults ≡ None → faults ≡ []
none_found faults is = refusals.none_found line_of number_of faults is

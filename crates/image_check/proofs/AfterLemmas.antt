-- What is told of the call that ends at an address.
use Rattle.std.proofs.Common.{◌≡◌, ℕ, ◌+◌, ◌-◌, ◌≤◌, ◌<◌, true, false, List, Option, Some, None, IfSome, IfNone, sym, ap, ◌∙◌, subst, arith}
use Rattle.std.specs.Option.{option_map}
use Rattle.asm_target.specs.FlowFunction.{Range}
use Rattle.asm_target.specs.Laws.{HasLengths}
use Rattle.elf_image.specs.Contents.{text_address}
use Rattle.flow_rules.specs.Placing.{Surroundings}
use Rattle.image_check.specs.Kept.{HasTextLaws, IsMarked}
use Rattle.image_check.specs.Marks.{MarkAll, call_among}
use Rattle.image_check.proofs.CallLemmas.{call_low, ended, not_ended}
use Rattle.image_marks.specs.Bits.{IsNearest, has}
use Rattle.image_model.specs.Listed.{AreFunctions, Listed}
use Rattle.image_rules.specs.Functions.{AreFunctionsOf}
use Rattle.image_rules.specs.Machine.{Machine}
use Rattle.image_rules.specs.Parts.{Surrounds, count_in}

-- what is told of the call that ends at an address
abbrev pub IsCallAt : {Instr : Type 0} → Machine Instr → List ℕ → ℕ → Option ℕ → Type 0
IsCallAt {Instr} machine bytes pc found = (around : Surroundings) (functions : ℕ → Listed Instr)
    → Surrounds bytes around → AreFunctionsOf machine bytes functions (count_in bytes)
    → found ≡ call_among machine bytes around functions (count_in bytes) pc

module _ {Instr : Type 0} (machine : Machine Instr) (lengths : HasLengths machine.set machine.fits machine.quantum)
    (laws : HasTextLaws machine) (bytes starts ends : List ℕ) (is : IsMarked machine bytes starts ends) where
  module _ (around : Surroundings) (functions : ℕ → Listed Instr) (surrounds : Surrounds bytes around)
      (are : AreFunctionsOf machine bytes functions (count_in bytes)) where
    marks : MarkAll machine bytes around functions (count_in bytes) starts ends
    marks =
        subst (λ (others : Surroundings). MarkAll machine bytes others functions (count_in bytes) starts ends)
        (laws.around bytes is.sound.around around is.sound.surrounds surrounds) (is.marks functions are)

    are_functions : AreFunctions machine.set machine.fits around (count_in bytes) functions
    are_functions = (let short = is.short in laws.functions bytes around functions (omega arith) is.sound.readable surrounds are)

    first : around.text.first ≡ text_address
    first = ap (λ (range : Range). range.first) surrounds.text

  pub no_call_before : (pc : ℕ) → pc < text_address → IsCallAt machine bytes pc None
  no_call_before pc before around functions surrounds are =
      let known = are_functions around functions surrounds are in
      sym (call_low machine lengths bytes around (count_in bytes) functions known.spelled (laws.text around (count_in bytes) functions known)
      (first around functions surrounds are) starts ends (marks around functions surrounds are) pc before)

  pub no_call : (pc offset : ℕ) → pc ≡ text_address + offset → has ends offset ≡ false → IsCallAt machine bytes pc None
  no_call pc offset here unmarked around functions surrounds are =
      let known = are_functions around functions surrounds are in
      sym (not_ended machine lengths bytes around (count_in bytes) functions known.spelled (laws.text around (count_in bytes) functions known)
      (first around functions surrounds are) starts ends (marks around functions surrounds are) pc offset here unmarked)

  module _ (pc offset : ℕ) (here : pc ≡ text_address + offset) (marked : has ends offset ≡ true) where
    -- where a call ends, there is a nearest instruction before
    not_none : ((number : ℕ) → number < offset → offset ≤ number + 15 → has starts number ≡ false) → IsCallAt machine bytes pc None
    not_none none around functions surrounds are =
        let known = are_functions around functions surrounds are in
        let call = ended machine lengths bytes around (count_in bytes) functions known.spelled (laws.text around (count_in bytes) functions known)
        (first around functions surrounds are) starts ends (marks around functions surrounds are) pc offset here marked in
        let nearest = call.3 in
        let unmarked = none (call.0 - text_address) nearest.below nearest.near in
        absurd (cc (nearest.marked, unmarked))

    is_call : (number : ℕ) → IsNearest starts offset number → IsCallAt machine bytes pc (Some (text_address + number))
    is_call number near around functions surrounds are =
        let known = are_functions around functions surrounds are in
        let call = ended machine lengths bytes around (count_in bytes) functions known.spelled (laws.text around (count_in bytes) functions known)
        (first around functions surrounds are) starts ends (marks around functions surrounds are) pc offset here marked in
        let same : number ≡ call.0 - text_address = laws.nearest starts offset number (call.0 - text_address) near call.3 in
        let least : text_address ≤ call.0 = call.2 in
        let place : text_address + number ≡ call.0 = omega arith in
        ap Some place ∙ sym call.1

    pub nearest_call : (found : Option ℕ) → IfSome found (IsNearest starts offset)
        → IfNone found ((number : ℕ) → number < offset → offset ≤ number + 15 → has starts number ≡ false)
        → IsCallAt machine bytes pc (option_map (λ number. text_address + number) found)
    nearest_call (Some number) near none = is_call number near
    nearest_call None near none = not_none none

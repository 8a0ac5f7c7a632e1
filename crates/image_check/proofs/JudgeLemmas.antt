-- What the flow check and the search for lost goals tell of a function that was read.
use Rattle.std.proofs.Common.{◌≡◌, ℕ, false, List, All, subst}
use Rattle.asm_target.specs.declared.body.Placed.{Placed}
use Rattle.asm_target.specs.FlowFunction.{Range}
use Rattle.asm_target.specs.FlowRules.{IsFlowSound}
use Rattle.asm_target.specs.InstructionSet.{InstructionSet}
use Rattle.flow_rules.specs.Placing.{Surroundings, function_of}
use Rattle.image_check.specs.Going.{IsFirstAstray, goes_astray}
use Rattle.image_model.specs.Listed.{Listed}
use Rattle.image_rules.specs.Machine.{Machine}
use Rattle.image_rules.specs.Sound.{rules_of}

module _ {Instr : Type 0} where
  pub flow_here : (machine : Machine Instr) (bytes : List ℕ) (listed : Listed Instr) {code : List (Placed Instr)} {depths : List ℕ}
      {one around : Surroundings} → code ≡ listed.code → depths ≡ listed.depths → one ≡ around
      → IsFlowSound (function_of machine.set machine.shape machine.begins code depths one)
      → IsFlowSound (rules_of machine bytes around listed)
  flow_here machine bytes listed {code} {depths} {one} {around} codes depths_same same sound =
      let here = subst (λ (x : List (Placed Instr)). IsFlowSound (function_of machine.set machine.shape machine.begins x depths one))
      codes sound in
      let there = subst (λ (x : List ℕ). IsFlowSound (function_of machine.set machine.shape machine.begins listed.code x one))
      depths_same here in
      subst (λ (x : Surroundings). IsFlowSound (function_of machine.set machine.shape machine.begins listed.code listed.depths x)) same there

  module _ (set : InstructionSet Instr) (text : Range) where
    pub first_here : {code other : List (Placed Instr)} {symbols listed : List ℕ} → code ≡ other → symbols ≡ listed → (place : ℕ)
        → IsFirstAstray set text symbols code place → IsFirstAstray set text listed other place
    first_here {code} {other} {symbols} {listed} codes same place is =
        let here = subst (λ (x : List (Placed Instr)). IsFirstAstray set text symbols x place) codes is in
        subst (λ (x : List ℕ). IsFirstAstray set text x other place) same here

    pub kept_here : {code other : List (Placed Instr)} {symbols listed : List ℕ} → code ≡ other → symbols ≡ listed
        → All (λ one. goes_astray set text symbols one ≡ false) code → All (λ one. goes_astray set text listed one ≡ false) other
    kept_here {code} {other} {symbols} {listed} codes same is =
        let here = subst (λ (x : List (Placed Instr)). All (λ one. goes_astray set text symbols one ≡ false) x) codes is in
        subst (λ (x : List ℕ). All (λ one. goes_astray set text x one ≡ false) other) same here

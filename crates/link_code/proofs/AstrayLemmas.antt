-- Where instructions go directly.
use Rattle.std.proofs.Common.{◌≡◌, ℕ, ◌+◌, ◌≤◌, false, List, All, get_or, length, Option, Some, inl, inr, ap, subst, ◌∙◌, arith}
use Rattle.std.specs.List.{slice_get}
use Rattle.std.proofs.lemmas.Bool.{cases_lt}
use Rattle.std.proofs.lemmas.Option.{slice_get-get_or}
use Rattle.machine_effect.specs.declared.effect.Effect.{Effect}
use Rattle.asm_target.specs.declared.body.Placed.{Placed}
use Rattle.asm_target.specs.FlowFunction.{Range}
use Rattle.asm_target.specs.InstructionSet.{InstructionSet}
use Rattle.image_rules.specs.Sound.{direct_goal}
use Rattle.link_code.specs.Astray.{AreKept, is_astray}

-- where an instruction goes directly, by its effect
pub goal_told : {Instr : Type 0} (set : InstructionSet Instr) (one : Placed Instr) (effect : Effect) (goal : Option ℕ)
    → goal ≡ direct_goal effect.next → effect ≡ set.effect one.instr one.at → goal ≡ direct_goal (set.effect one.instr one.at).next
goal_told set one effect goal is same = is ∙ ap (λ (x : Effect). direct_goal x.next) same

module _ {Instr : Type 0} (set : InstructionSet Instr) (text : Range) (symbols : List ℕ) where
  pub one_kept : (code : List (Placed Instr)) (n : ℕ) (one : Placed Instr) → slice_get code n ≡ Some one
      → is_astray set text symbols one ≡ false → AreKept set text symbols code n → AreKept set text symbols code (n + 1)
  one_kept code n one here kept before k other less is =
      elim (cases_lt k n) [
        | inl low ↦ before k other low is
        | inr high ↦
            let last : k ≡ n = omega arith in
            let there : slice_get code n ≡ Some other = subst (λ (j : ℕ). slice_get code j ≡ Some other) last is in
            let same : one ≡ other = cc in
            subst (λ (x : Placed Instr). is_astray set text symbols x ≡ false) same kept
      ]

  pub all_kept : (code : List (Placed Instr)) (n : ℕ) → length code ≤ n → AreKept set text symbols code n
      → All (λ one. is_astray set text symbols one ≡ false) code
  all_kept code n long before = λ k d less. before k (get_or code k d) (omega arith) (slice_get-get_or code k d less)

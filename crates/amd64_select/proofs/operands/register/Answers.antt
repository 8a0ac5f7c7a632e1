use Rattle.std.proofs.Common.{◌≡◌, ◌⊎◌, Some, sym, ◌∙◌, ap, inl, inr}
use Rattle.amd64_table.specs.declared.operand.Operand.TheVariants as operand
use Rattle.amd64_table.specs.declared.reg.Reg.{Reg}
use Rattle.amd64_forms.specs.declared.rows.Resolved.{Resolved}
use Rattle.amd64_forms.specs.declared.rows.Resolved.TheVariants.{Plain}
use Rattle.amd64_forms.proofs.Apart.{regs_apart, reg_no_xmm}
use Rattle.amd64_select.specs.Operands.{IsRegister}
use Rattle.amd64_select.proofs.operands.register.Goals as goal

-- the name of a general register is that of no other register
pub returns-in-Some-clause-only : goal.returns-in-Some-clause-only
unfolding IsRegister
returns-in-Some-clause-only c = λ x is.
    elim is as (λ _. Some (Plain (operand.Reg c.in-Some.reg)) ≡ Some x) [
      | inl one ↦ ap (λ (reg : Reg). Some (Plain (operand.Reg reg)))
          (regs_apart c.in-Some.reg one.0 (c.in-Some.ensures.found ∙ sym one.1)) ∙ ap (λ (x : Resolved). Some x) (sym one.2)
      | inr xmm ↦ absurd (reg_no_xmm c.in-Some.reg xmm.0 (c.in-Some.ensures.found ∙ sym xmm.1))
    ]

use Rattle.std.proofs.Common.{ℤ, Some, refl, sym, ◌∙◌, ap, subst}
use Rattle.amd64_table.specs.declared.reg.Reg.TheVariants.{Sp}
use Rattle.amd64_forms.specs.declared.rows.Resolved.{Resolved}
use Rattle.amd64_select.specs.Operands.{IsPlaced}
use Rattle.amd64_select.proofs.EasedLemmas.{cancels}
use Rattle.amd64_select.proofs.operands.eased_on_stack.Goals as goal

-- the offset takes the place back to the stack pointer

pub returns-clause-found : goal.returns-clause-found
returns-clause-found c =
    subst (λ (disp : ℤ). IsPlaced c.args.address Sp disp c.placed.result) (sym (cancels c.args.at)) (refl, c.placed.ensures)

pub returns-clause-only : goal.returns-clause-only
returns-clause-only c = λ x placed.
    let there = subst (λ (disp : ℤ). IsPlaced c.args.address Sp disp x) (cancels c.args.at) placed in
    ap (λ (x : Resolved). Some x) (c.placed.ensures ∙ sym there.1)

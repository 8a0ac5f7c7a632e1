use Rattle.std.proofs.Common.{◌≡◌, ◌⊎◌, inl, inr, None, sym, ◌∙◌, subst}
use Rattle.std.specs.Prelude.{Result, Ok, Err, IfErr}
use Rattle.asm_target.specs.declared.frame.Site.{Site}
use Rattle.asm_target.specs.declared.select_no.SelectNo.{SelectNo}
use Rattle.asm_target.specs.declared.select_no.SelectNo.TheVariants as no
use Rattle.asm_target.specs.Selection.{IsRefused}
use Rattle.goasm_base.specs.declared.statement.Stmt.{Stmt}
use Rattle.asm_target_linked.specs.Selecting.{refusal_of, selected_of, selection}
use Rattle.asm_target_linked.specs.SelectLaws.{refused}
use Rattle.asm_target_linked.proofs.linked.LinkedTarget.select.Goals as goal

-- want of memory, or the cause of a statement that isn't chosen
refusal : (stmt : Stmt) (site : Site) (found : SelectNo)
    → (found ≡ no.Memory) ⊎ ((selected_of stmt ≡ None) × (found ≡ refusal_of stmt)) → IsRefused selection stmt site found
refusal stmt site found (inl memory) = subst (λ (n : SelectNo). IsRefused selection stmt site n) (sym memory) tt
refusal stmt site found (inr is) = subst (λ (n : SelectNo). IsRefused selection stmt site n) (sym is.1) (refused stmt site is.0)

refusals : {V : Type 0} (stmt : Stmt) (site : Site) (result : Result V SelectNo)
    → IfErr result (λ n. (n ≡ no.Memory) ⊎ ((selected_of stmt ≡ None) × (n ≡ refusal_of stmt)))
    → IfErr result (λ n. IsRefused selection stmt site n)
refusals {V} stmt site (Ok value) told = tt
refusals {V} stmt site (Err found) told = refusal stmt site found told

pub returns-clause-refused : goal.returns-clause-refused
returns-clause-refused c = refusals c.args.stmt.now c.args._site c.select.result c.select.ensures.refused

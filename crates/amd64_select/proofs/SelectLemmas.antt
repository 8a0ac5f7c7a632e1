-- What a statement becomes, by what is picked for it.
use Rattle.std.specs.Prelude.{map}
use Rattle.std.proofs.Common.{◌≡◌, ◌⊎◌, true, false, List, [], ◌∷◌, None, refl, sym, ◌∙◌, ap, subst, inl, inr}
use Rattle.goasm_base.specs.declared.statement.Operand.{Operand}
use Rattle.goasm_base.specs.declared.statement.Stmt.{Stmt}
use Rattle.asm_target.specs.declared.frame.Site.{Site}
use Rattle.asm_target.specs.declared.refer.Picked.{Picked}
use Rattle.asm_target.specs.Selection.{IsSelected}
use Rattle.amd64_table.specs.declared.instr.Instr.{Instr}
use Rattle.amd64_forms.specs.declared.rows.Spoken.{Spoken}
use Rattle.amd64_forms.specs.declared.rows.Spoken.TheVariants as spoken
use Rattle.amd64_forms.specs.Words.{Says}
use Rattle.amd64_select.specs.Operands.{taken}
use Rattle.amd64_select.specs.Selecting.{Becomes, BecomesBy, Picks, code_of, refers, selection}
use Rattle.amd64_select.specs.SelectLaws.{says_one}
use Rattle.amd64_select.proofs.EasedLemmas.{picked_by, picks_nothing}

-- operands that aren't eased are as they stand
pub as_they_stand : (site : Site) (ops : List Operand) → map (taken false site) ops ≡ ops
as_they_stand site [] = refl
as_they_stand site (op ∷ ops) = ap (λ (more : List Operand). op ∷ more) (as_they_stand site ops)

by_picked : (s : Spoken) (stmt : Stmt) (site : Site) (i : Instr) → Picks s stmt.lock site stmt.operands i
    → BecomesBy s stmt site (code_of i (refers stmt.operands) site.frame)
by_picked spoken.Nothing stmt site i picks = absurd (picks_nothing stmt.lock site stmt.operands i picks)
by_picked (spoken.Listed m) stmt site i picks = (i, picks, refl)
by_picked spoken.Widen stmt site i picks = (i, picks, refl)
by_picked (spoken.ToLabel code) stmt site i picks = (i, picks, refl)
by_picked (spoken.Direct near) stmt site i picks = (i, picks, refl)
by_picked spoken.Adjust stmt site i picks = (i, picks, refl)

pub becomes_one : (s : Spoken) (stmt : Stmt) (site : Site) (i : Instr) (code : List (Picked Instr)) → stmt.suffix ≡ None
    → Says stmt.op s → Picks s stmt.lock site (map (taken false site) stmt.operands) i
    → code ≡ code_of i (refers stmt.operands) site.frame → Becomes stmt site code
becomes_one s stmt site i code plain says picks is = record {
  plain = plain;
  spoken = s;
  says = says;
  by = subst (BecomesBy s stmt site) (sym is)
      (by_picked s stmt site i (subst (λ (ops : List Operand). Picks s stmt.lock site ops i) (as_they_stand site stmt.operands) picks));
}

-- nothing is selected where no instruction is picked, and the statement doesn't stand for nothing
pub unselected : (s : Spoken) (stmt : Stmt) (site : Site) → Says stmt.op s
    → ((i : Instr) → ¬ Picks s stmt.lock site (map (taken false site) stmt.operands) i)
    → (s ≡ spoken.Nothing → stmt.lock ≡ true) → ¬ IsSelected selection stmt site
unselected s stmt site says none locked selected =
    let becomes = selected.1 in
    let same = says_one stmt.op becomes.spoken s becomes.says says in
    let by = subst (λ (t : Spoken). BecomesBy t stmt site selected.0) same becomes.by in
    elim (picked_by s stmt site selected.0 by) as (λ _. ⊥) [
      | inl nothing ↦ absurd (let lock = locked nothing.0 in let free = nothing.1 in cc)
      | inr found ↦ none found.0
          (subst (λ (ops : List Operand). Picks s stmt.lock site ops found.0) (sym (as_they_stand site stmt.operands)) found.1)
    ]

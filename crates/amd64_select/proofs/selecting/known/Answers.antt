use Rattle.std.proofs.Common.{ℕ, List, sym, subst}
use Rattle.amd64_forms.specs.Words.{Says}
use Rattle.amd64_select.proofs.selecting.known.Goals as goal

pub returns-else-is_some-clause-only : goal.returns-else-is_some-clause-only
returns-else-is_some-clause-only c = λ s plain says.
    c.spoken.ensures.only s (subst (λ (op : List ℕ). Says op s) (sym c.as_slice.ensures) says)

use Rattle.std.proofs.Common.{Err, refl, sym, ap, ◌∙◌, arith}
use Rattle.std.proofs.lemmas.Result.{err_from_is_err_and}
use Rattle.asm_macro.proofs.UseLemmas.{run_full, run_passed, run_next}
use Rattle.asm_macro.proofs.uses.expand_statement.Goals as goal

pub returns-in_err-met-clause-err : goal.returns-in_err-met-clause-err
returns-in_err-met-clause-err c =
    let fault = err_from_is_err_and c.from_residual.result c.from_residual.ensures.1 in
    rw (fault.1, fault.2)
    (λ is. let both = c.in_err-met.ensures.err is in
    sym c.loop-pending.invariant ∙ run_full c.loop-pending.produced.uses _ _ _ _ _ both.0 ∙ ap Err (sym both.1))

pub returns-then-produced-eq0-clause-err : goal.returns-then-produced-eq0-clause-err
returns-then-produced-eq0-clause-err c =
    λ is. sym c.loop-pending.invariant
    ∙ run_passed c.loop-pending.produced.uses _ _ _ _ _ _ _ _ _ (omega (arith, c.put_front.ensures.uses)) (rw c.in-Some.is at c.in_ok-met.ensures.ok)
    ∙ rw (c.refusal.ensures, c.lower.ensures, c.in_ok-cause.ensures) refl

pub loop-pending-smaller : goal.loop-pending-smaller
loop-pending-smaller c = omega (arith, c.put_front.ensures.uses)

pub loop-pending-preserved : goal.loop-pending-preserved
loop-pending-preserved c =
    rw c.put_front.ensures.uses
    (sym (run_next c.loop-pending.produced.uses _ _ _ _ _ _ _ _ _ _ (omega (arith, c.put_front.ensures.uses)) (rw c.in-Some.is at c.in_ok-met.ensures.ok) c.in_ok-found.ensures)
    ∙ c.loop-pending.invariant)

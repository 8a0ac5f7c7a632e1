use Rattle.std.proofs.Common.{◌≡◌, false, refl, sym, ◌∙◌}
use Rattle.std.proofs.lemmas.Result.{err_from_is_err_and}
use Rattle.asm_parse.specs.Resolve.{statement_of, has_unknown}
use Rattle.asm_parse.proofs.resolve.statement_of.Goals as goal

pub returns-in_err-operands-clause-exact : goal.returns-in_err-operands-clause-exact
unfolding statement_of
returns-in_err-operands-clause-exact g c =
    let p = err_from_is_err_and c.from_residual.result c.from_residual.ensures.1 in
    rw (p.1, p.2) (λ word tells kept.
    let known : has_unknown word c.args.body.now c.as_slice-drafts.result.now ≡ false = sym (c.has_unknown.ensures word tells) ∙ c.if-has_unknown.false in
    rw (← c.as_slice-drafts.ensures, known, c.in_err-operands.ensures.exact word tells kept) refl)

use Rattle.std.proofs.Common.{sym, ◌∙◌}
use Rattle.std.proofs.lemmas.Result.{err_from_is_err_and}
use Rattle.asm_macro.proofs.BuildLemmas.{sources_next, sources_refused, sources_end, sources_begin}
use Rattle.asm_macro.proofs.builds.expand_sources.Goals as goal

pub returns-in_err-read_file-clause-err : goal.returns-in_err-read_file-clause-err
returns-in_err-read_file-clause-err c =
    let fault = err_from_is_err_and c.from_residual.result c.from_residual.ensures.1 in
    rw (fault.1, fault.2)
    (λ is. sym c.loop-tokens.invariant
    ∙ sources_refused c.args.limits.nesting _ _ c.loop-tokens.room c.loop-tokens.uses c.loop-tokens.all.items c.args.sources.now c.loop-tokens.tokens-index c.tokens-item.result _
    c.loop-tokens-test.true c.tokens-item.is
    (rw (c.as_slice.ensures, c.new.ensures, c.new-in-loop-tokens.ensures.items) at (c.in_err-read_file.ensures.err is)))

pub loop-tokens-preserved : goal.loop-tokens-preserved
loop-tokens-preserved c =
    sym (sources_next c.args.limits.nesting _ _ c.loop-tokens.room c.loop-tokens.uses c.loop-tokens.all.items c.push.new.self.items c.args.sources.now c.loop-tokens.tokens-index c.tokens-item.result _
    c.loop-tokens-test.true c.tokens-item.is
    (rw (c.as_slice.ensures, c.new.ensures, c.new-in-loop-tokens.ensures.items) at c.in_ok-read_file.ensures.ok)
    (rw (← c.new-in-loop-tokens-2.ensures) c.in_ok-push.ensures.items))
    ∙ c.loop-tokens.invariant

pub loop-tokens-init : goal.loop-tokens-init
loop-tokens-init c = rw c.new-all.ensures.items (sources_begin _)

pub returns-clause-ok : goal.returns-clause-ok
returns-clause-ok c =
    sym c.loop-tokens.invariant
    ∙ sources_end c.args.limits.nesting _ _ c.loop-tokens.room c.loop-tokens.uses c.loop-tokens.all.items c.args.sources.now c.loop-tokens.tokens-index c.loop-tokens-test.false

use Rattle.std.proofs.Common.{◌≡◌, ℕ, subst, ◌+◌, length, drop, None, ◌∙◌, arith}
use Rattle.std.proofs.lemmas.Result.{err_from_is_err_and}
use Rattle.asm_parse.specs.Ahead.{seen, outlook_of, outlooks_back}
use Rattle.asm_parse.specs.Steps.{steps}
use Rattle.asm_parse.specs.Known.{IsKnown}
use Rattle.asm_parse.proofs.TotalLemmas.{total_more, total_all}
use Rattle.asm_parse.proofs.PlacedLemmas.{statement_in}
use Rattle.asm_parse.proofs.ReadLemmas.{popped, ahead, reads_on, read_stops, reads_done}
use Rattle.asm_parse.proofs.parser.read_into.Goals as goal

pub returns-in_err-step-clause-exact : goal.returns-in_err-step-clause-exact
returns-in_err-step-clause-exact g c =
    let p = err_from_is_err_and c.from_residual-in_err-step.result c.from_residual-in_err-step.ensures.1 in
    let next = drop (c.loop-statement.statement-index + 1) (seen c.args.statements.now) in
    let none : c.pop.result ≡ None → length c.loop-statement.outlooks.items ≡ 0 = λ e. (let empty = rw e at c.pop.ensures.cases in omega (arith, empty.0, c.loop-statement.outlooks.ok.0)) in
    let taken = popped c.loop-statement.outlooks.items c.pop.new.self.items (outlooks_back next) c.pop.result (outlook_of c.statement-item.result.tokens.now next) _ c.pop.ensures.items none (ahead c.args.statements.now c.loop-statement.statement-index c.statement-item.result c.loop-statement-test.true c.statement-item.is c.loop-statement.outlooks.items c.loop-statement.invariant.ahead) in
    rw (p.1, p.2) (λ word tells kept. read_stops c.args.statements.now c.loop-statement.statement-index c.statement-item.result c.loop-statement-test.true c.statement-item.is word c.loop-statement.progress c.unwrap_or-outlook.result (steps word c.args.progress.now (seen c.args.statements.now)) (c.loop-statement.invariant.read word tells) (c.unwrap_or-outlook.ensures ∙ taken.1) c.in_err-step.field-0.0 (c.in_err-step.ensures.exact word tells kept))

pub loop-statement-preserved : goal.loop-statement-preserved
loop-statement-preserved g c =
    let next = drop (c.loop-statement.statement-index + 1) (seen c.args.statements.now) in
    let none : c.pop.result ≡ None → length c.loop-statement.outlooks.items ≡ 0 = λ e. (let empty = rw e at c.pop.ensures.cases in omega (arith, empty.0, c.loop-statement.outlooks.ok.0)) in
    let taken = popped c.loop-statement.outlooks.items c.pop.new.self.items (outlooks_back next) c.pop.result (outlook_of c.statement-item.result.tokens.now next) _ c.pop.ensures.items none (ahead c.args.statements.now c.loop-statement.statement-index c.statement-item.result c.loop-statement-test.true c.statement-item.is c.loop-statement.outlooks.items c.loop-statement.invariant.ahead) in
    record {
      ahead = taken.0;
      read = λ word tells. reads_on c.args.statements.now c.loop-statement.statement-index c.statement-item.result c.loop-statement-test.true c.statement-item.is word c.loop-statement.progress c.unwrap_or-outlook.result (steps word c.args.progress.now (seen c.args.statements.now)) (c.loop-statement.invariant.read word tells) (c.unwrap_or-outlook.ensures ∙ taken.1) c.step.new.progress (c.in_ok-step.ensures.exact word tells);
      known = λ begun. subst (λ (n : ℕ). IsKnown n c.step.new.progress) (total_more c.args.statements.now c.loop-statement.statement-index c.statement-item.result c.loop-statement-test.true c.statement-item.is) (c.in_ok-step.ensures.known _ (c.loop-statement.invariant.known begun));
      placed = λ count all begun. c.in_ok-step.ensures.placed count (statement_in count c.args.statements.now c.loop-statement.statement-index c.statement-item.result c.loop-statement-test.true c.statement-item.is all) (c.loop-statement.invariant.placed count all begun);
    }

pub returns-clause-exact : goal.returns-clause-exact
returns-clause-exact g c = λ word tells. reads_done c.args.statements.now c.loop-statement.statement-index word c.loop-statement.progress (steps word c.args.progress.now (seen c.args.statements.now)) (c.loop-statement.invariant.read word tells) (omega (arith, c.loop-statement-test.false))

pub returns-clause-known : goal.returns-clause-known
returns-clause-known g c = λ begun. subst (λ (n : ℕ). IsKnown n c.loop-statement.progress) (total_all c.args.statements.now c.loop-statement.statement-index (omega (arith, c.loop-statement-test.false))) (c.loop-statement.invariant.known begun)

pub returns-in_err-step-clause-placed : goal.returns-in_err-step-clause-placed
returns-in_err-step-clause-placed g c =
    let p = err_from_is_err_and c.from_residual-in_err-step.result c.from_residual-in_err-step.ensures.1 in
    rw (p.1, p.2) (λ count all begun. c.in_err-step.ensures.placed count (statement_in count c.args.statements.now c.loop-statement.statement-index c.statement-item.result c.loop-statement-test.true c.statement-item.is all) (c.loop-statement.invariant.placed count all begun))

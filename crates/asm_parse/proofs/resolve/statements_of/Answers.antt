use Rattle.std.proofs.Common.{ℕ, ◌+◌, [], ◌∷◌, ◌++◌, Err, length, sym, subst, ap, ◌∙◌, arith}
use Rattle.std.specs.Prelude.{All}
use Rattle.std.proofs.lemmas.Result.{err_from_is_err_and}
use Rattle.std.proofs.lemmas.List.Elements.{All-push, All-same}
use Rattle.std.proofs.lemmas.List.{length_push}
use Rattle.goasm_base.specs.Statements.{IsValidStatement}
use Rattle.asm_parse.specs.Refusals.{traversed}
use Rattle.asm_parse.specs.Resolve.{statement_of}
use Rattle.asm_parse.specs.Placed.{LineIn, StatementIn}
use Rattle.asm_parse.proofs.Loops.{with_front, goes_on, is_done, stops, turn, refused_turn, ends}
use Rattle.asm_parse.proofs.resolve.statements_of.Goals as goal

pub returns-in_err-stmt-clause-exact : goal.returns-in_err-stmt-clause-exact
returns-in_err-stmt-clause-exact g c =
    let p = err_from_is_err_and c.from_residual.result c.from_residual.ensures.1 in
    let refused = c.in_err-stmt.field-0.0 in
    rw (p.1, p.2) (λ word tells. λ kept. stops (with_front (statement_of word c.args.symbols.now c.args.body.now)) c.args.lines.now c.loop-line.line-index (traversed (statement_of word c.args.symbols.now c.args.body.now) c.args.lines.now) c.loop-line.stmts.items c.line-item.result (c.loop-line.invariant.so_far word tells) c.loop-line-test.true c.line-item.is (Err refused) (refused_turn (statement_of word c.args.symbols.now c.args.body.now) c.loop-line.stmts.items c.line-item.result refused (c.in_err-stmt.ensures.exact word tells kept)))

pub loop-line-preserved : goal.loop-line-preserved
loop-line-preserved g c = record {
  so_far = λ word tells. goes_on (with_front (statement_of word c.args.symbols.now c.args.body.now)) c.args.lines.now c.loop-line.line-index (traversed (statement_of word c.args.symbols.now c.args.body.now) c.args.lines.now) c.loop-line.stmts.items c.push.new.self.items c.line-item.result (c.loop-line.invariant.so_far word tells) c.loop-line-test.true c.line-item.is
      (turn (statement_of word c.args.symbols.now c.args.body.now) c.loop-line.stmts.items c.push.new.self.items c.line-item.result c.in_ok-stmt.stmt (c.in_ok-stmt.ensures.exact word tells) c.in_ok-push.ensures.items);
  valid = All-same (IsValidStatement (length c.args.symbols.now) (length c.args.body.now.lines)) c.push.new.self.items (c.loop-line.stmts.items ++ c.in_ok-stmt.stmt ∷ []) c.in_ok-push.ensures.items (All-push (IsValidStatement (length c.args.symbols.now) (length c.args.body.now.lines)) c.loop-line.stmts.items c.in_ok-stmt.stmt c.loop-line.invariant.valid c.in_ok-stmt.ensures.valid);
  placed = λ count all. All-same (StatementIn count) c.push.new.self.items (c.loop-line.stmts.items ++ c.in_ok-stmt.stmt ∷ []) c.in_ok-push.ensures.items (All-push (StatementIn count) c.loop-line.stmts.items c.in_ok-stmt.stmt (c.loop-line.invariant.placed count all)
      (c.in_ok-stmt.ensures.placed count (subst (LineIn count) (sym c.line-item.is) (all c.loop-line.line-index c.line-item.result c.loop-line-test.true))));
  count = ap length c.in_ok-push.ensures.items ∙ length_push c.loop-line.stmts.items c.in_ok-stmt.stmt ∙ ap (λ (n : ℕ). n + 1) c.loop-line.invariant.count;
}

pub returns-clause-exact : goal.returns-clause-exact
returns-clause-exact g c =
    rw c.new.ensures (λ word tells. sym (is_done (with_front (statement_of word c.args.symbols.now c.args.body.now)) c.args.lines.now c.loop-line.line-index (traversed (statement_of word c.args.symbols.now c.args.body.now) c.args.lines.now) c.loop-line.stmts.items (c.loop-line.invariant.so_far word tells) (omega (arith, c.loop-line-test.false))) ∙ ends (statement_of word c.args.symbols.now c.args.body.now) c.loop-line.stmts.items)

pub returns-in_err-stmt-clause-placed : goal.returns-in_err-stmt-clause-placed
returns-in_err-stmt-clause-placed g c =
    let p = err_from_is_err_and c.from_residual.result c.from_residual.ensures.1 in
    rw (p.1, p.2) (λ count all. c.in_err-stmt.ensures.placed count (subst (LineIn count) (sym c.line-item.is) (all c.loop-line.line-index c.line-item.result c.loop-line-test.true)))

pub returns-clause-placed : goal.returns-clause-placed
returns-clause-placed g c = λ count all. subst (All (StatementIn count)) (sym c.new.ensures) (c.loop-line.invariant.placed count all)

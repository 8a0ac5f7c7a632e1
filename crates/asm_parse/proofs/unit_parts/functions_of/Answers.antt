use Rattle.std.proofs.Common.{[], ◌∷◌, ◌++◌, Err, length, sym, subst, ◌∙◌, arith}
use Rattle.std.proofs.lemmas.Result.{err_from_is_err_and}
use Rattle.std.specs.Prelude.{All}
use Rattle.std.proofs.lemmas.List.Elements.{All-push, All-same}
use Rattle.goasm_base.specs.Statements.{IsValidFunction}
use Rattle.asm_parse.specs.Refusals.{traversed}
use Rattle.asm_parse.specs.Resolve.{function_of}
use Rattle.asm_parse.specs.Placed.{BodyIn, FunctionIn}
use Rattle.asm_parse.proofs.Loops.{with_front, goes_on, is_done, stops, turn, refused_turn, ends}
use Rattle.asm_parse.proofs.unit_parts.functions_of.Goals as goal

pub returns-in_err-function-clause-exact : goal.returns-in_err-function-clause-exact
returns-in_err-function-clause-exact g c =
    let p = err_from_is_err_and c.from_residual.result c.from_residual.ensures.1 in
    let refused = c.in_err-function.field-0.0 in
    rw (p.1, p.2) (λ word tells. λ kept. stops (with_front (function_of word c.args.symbols.now)) c.args.bodies.now c.loop-body.body-index (traversed (function_of word c.args.symbols.now) c.args.bodies.now) c.loop-body.functions.items c.body-item.result (c.loop-body.invariant.so_far word tells) c.loop-body-test.true c.body-item.is (Err refused) (refused_turn (function_of word c.args.symbols.now) c.loop-body.functions.items c.body-item.result refused (c.in_err-function.ensures.exact word tells kept)))

pub loop-body-preserved : goal.loop-body-preserved
loop-body-preserved g c = record {
  so_far = λ word tells. goes_on (with_front (function_of word c.args.symbols.now)) c.args.bodies.now c.loop-body.body-index (traversed (function_of word c.args.symbols.now) c.args.bodies.now) c.loop-body.functions.items c.push.new.self.items c.body-item.result (c.loop-body.invariant.so_far word tells) c.loop-body-test.true c.body-item.is
      (turn (function_of word c.args.symbols.now) c.loop-body.functions.items c.push.new.self.items c.body-item.result c.in_ok-function.function (c.in_ok-function.ensures.exact word tells) c.in_ok-push.ensures.items);
  valid = All-same (IsValidFunction (length c.args.symbols.now)) c.push.new.self.items (c.loop-body.functions.items ++ c.in_ok-function.function ∷ []) c.in_ok-push.ensures.items (All-push (IsValidFunction (length c.args.symbols.now)) c.loop-body.functions.items c.in_ok-function.function c.loop-body.invariant.valid c.in_ok-function.ensures.valid);
  placed = λ count all. All-same (FunctionIn count) c.push.new.self.items (c.loop-body.functions.items ++ c.in_ok-function.function ∷ []) c.in_ok-push.ensures.items (All-push (FunctionIn count) c.loop-body.functions.items c.in_ok-function.function (c.loop-body.invariant.placed count all)
      (c.in_ok-function.ensures.placed count (subst (BodyIn count) (sym c.body-item.is) (all c.loop-body.body-index c.body-item.result c.loop-body-test.true))));
}

pub returns-clause-exact : goal.returns-clause-exact
returns-clause-exact g c =
    rw c.new.ensures (λ word tells. sym (is_done (with_front (function_of word c.args.symbols.now)) c.args.bodies.now c.loop-body.body-index (traversed (function_of word c.args.symbols.now) c.args.bodies.now) c.loop-body.functions.items (c.loop-body.invariant.so_far word tells) (omega (arith, c.loop-body-test.false))) ∙ ends (function_of word c.args.symbols.now) c.loop-body.functions.items)

pub returns-in_err-function-clause-placed : goal.returns-in_err-function-clause-placed
returns-in_err-function-clause-placed g c =
    let p = err_from_is_err_and c.from_residual.result c.from_residual.ensures.1 in
    rw (p.1, p.2) (λ count all. c.in_err-function.ensures.placed count (subst (BodyIn count) (sym c.body-item.is) (all c.loop-body.body-index c.body-item.result c.loop-body-test.true)))

pub returns-clause-placed : goal.returns-clause-placed
returns-clause-placed g c = λ count all. subst (All (FunctionIn count)) (sym c.new.ensures) (c.loop-body.invariant.placed count all)

use Rattle.std.proofs.Common.{arith}
use Rattle.std.proofs.lemmas.Result.{err_from_is_err_and}
use Rattle.asm_grammar.specs.declared.operator.Group.TheVariants.{Sum, Product}
use Rattle.asm_grammar.specs.Reader.{eat_operator}
use Rattle.asm_grammar.specs.Expressions as spec
use Rattle.asm_grammar.proofs.Repeats.{goes_on, ends}
use Rattle.asm_grammar.proofs.Operations.{operated, operand_stops}
use Rattle.asm_grammar.proofs.expression.+expression.Goals as goal

pub product-returns-in_err-right : goal.product-returns-in_err-right
product-returns-in_err-right t c =
    let p = err_from_is_err_and c.from_residual-in_err-right.result c.from_residual-in_err-right.ensures.1 in
    let inner = spec.bracketed c.args.depth in
    let stop = c.in_err-right.field-0.0 in
    rw (p.1, p.2) (ends (eat_operator Product) (spec.operation (spec.factor inner)) (spec.product inner c.args.reader.now) c.loop-operator.value c.loop-operator.reader c.eat_operator.new.self c.in-Some.operator stop
    c.loop-operator.invariant.rest c.in-Some.ensures.0 c.in-Some.ensures.1
    (operand_stops (spec.factor inner) c.loop-operator.value c.in-Some.operator c.eat_operator.new.self stop c.in_err-right.ensures))

pub product-loop-operator-preserved : goal.product-loop-operator-preserved
product-loop-operator-preserved t c =
    let inner = spec.bracketed c.args.depth in
    record {
      rest = goes_on (eat_operator Product) (spec.operation (spec.factor inner)) (spec.product inner c.args.reader.now) c.loop-operator.value c.noted-value.result c.loop-operator.reader c.eat_operator.new.self c.noted-value.new.reader c.in-Some.operator
          c.loop-operator.invariant.rest c.in-Some.ensures.0 c.in-Some.ensures.1
          (operated (spec.factor inner) c.loop-operator.value c.in_ok-right.right c.noted-value.result c.in-Some.operator c.eat_operator.new.self c.factor-in-Some.new.reader c.noted-value.new.reader c.in_ok-right.ensures.0 c.noted-value.ensures.0)
          (omega (arith, c.in_ok-right.ensures.1, c.noted-value.ensures.1));
      shorter = omega (arith, c.loop-operator.invariant.shorter, c.in-Some.ensures.1, c.in_ok-right.ensures.1, c.noted-value.ensures.1);
    }

pub sum-returns-in_err-right : goal.sum-returns-in_err-right
sum-returns-in_err-right t c =
    let p = err_from_is_err_and c.from_residual-in_err-right.result c.from_residual-in_err-right.ensures.1 in
    let inner = spec.bracketed c.args.depth in
    let stop = c.in_err-right.field-0.0 in
    rw (p.1, p.2) (ends (eat_operator Sum) (spec.operation (spec.product inner)) (spec.sum inner c.args.reader.now) c.loop-operator.value c.loop-operator.reader c.eat_operator.new.self c.in-Some.operator stop
    c.loop-operator.invariant.rest c.in-Some.ensures.0 c.in-Some.ensures.1
    (operand_stops (spec.product inner) c.loop-operator.value c.in-Some.operator c.eat_operator.new.self stop c.in_err-right.ensures))

pub sum-loop-operator-preserved : goal.sum-loop-operator-preserved
sum-loop-operator-preserved t c =
    let inner = spec.bracketed c.args.depth in
    record {
      rest = goes_on (eat_operator Sum) (spec.operation (spec.product inner)) (spec.sum inner c.args.reader.now) c.loop-operator.value c.noted-value.result c.loop-operator.reader c.eat_operator.new.self c.noted-value.new.reader c.in-Some.operator
          c.loop-operator.invariant.rest c.in-Some.ensures.0 c.in-Some.ensures.1
          (operated (spec.product inner) c.loop-operator.value c.in_ok-right.right c.noted-value.result c.in-Some.operator c.eat_operator.new.self c.product-in-Some.new.reader c.noted-value.new.reader c.in_ok-right.ensures.0 c.noted-value.ensures.0)
          (omega (arith, c.in_ok-right.ensures.1, c.noted-value.ensures.1));
      shorter = omega (arith, c.loop-operator.invariant.shorter, c.in-Some.ensures.1, c.in_ok-right.ensures.1, c.noted-value.ensures.1);
    }

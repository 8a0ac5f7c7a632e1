use Rattle.std.proofs.Common.{ap, length, arith}
use Rattle.std.proofs.lemmas.List.{length_push}
use Rattle.std.proofs.lemmas.Result.{err_from_is_err_and}
use Rattle.asm_grammar.specs.Statements as spec
use Rattle.asm_grammar.proofs.Repeats.{goes_on, ends}
use Rattle.asm_grammar.proofs.Listed.{begun, operand_read, operand_stops}
use Rattle.asm_grammar.proofs.statement.read_operands.Goals as goal

pub returns-in_err-next-clause-read : goal.returns-in_err-next-clause-read
returns-in_err-next-clause-read c =
    let p = err_from_is_err_and c.from_residual-in_err-next.result c.from_residual-in_err-next.ensures.1 in
    let stop = c.in_err-next.field-0.0 in
    rw (p.1, p.2) (ends spec.separator spec.with_operand (spec.operands c.args.reader.now) c.operands.operands.items c.operands.reader c.eat.new.self tt stop
    c.operands.invariant.rest (begun c.operands.reader c.eat.new.self c.operands-test.ensures.0) c.operands-test.ensures.1
    (operand_stops c.operands.operands.items c.eat.new.self stop c.in_err-next.ensures))

pub operands-preserved : goal.operands-preserved
operands-preserved c = record {
  rest = goes_on spec.separator spec.with_operand (spec.operands c.args.reader.now) c.operands.operands.items c.push-in-operands.new.self.items c.operands.reader c.eat.new.self c.read_operand-in-operands.new.reader tt
      c.operands.invariant.rest (begun c.operands.reader c.eat.new.self c.operands-test.ensures.0) c.operands-test.ensures.1
      (operand_read c.operands.operands.items c.push-in-operands.new.self.items c.in_ok-next.next c.eat.new.self c.read_operand-in-operands.new.reader c.in_ok-next.ensures.0 c.in_ok-push-2.ensures.items)
      c.in_ok-next.ensures.1;
  shorter = omega (arith, c.operands.invariant.shorter, c.operands-test.ensures.1, c.in_ok-next.ensures.1);
  few = omega (arith, c.operands.invariant.few, c.operands-test.ensures.1, c.in_ok-next.ensures.1, ap length c.in_ok-push-2.ensures.items, length_push c.operands.operands.items c.in_ok-next.next);
}

use Rattle.std.proofs.Common.{◌+◌, ◌*◌, ◌≤◌, length}
use Rattle.asm_grammar.specs.declared.operator.Group.TheVariants.{Sum, Product}
use Rattle.asm_grammar.specs.Reader.{eat_operator}
use Rattle.asm_grammar.specs.Expressions as spec
use Rattle.asm_grammar.proofs.Repeats.{IsRest}
use Rattle.asm_grammar.proofs.expression.+expression.Given as goal

abbrev pub decreases-primary : goal.decreases-primary
decreases-primary l = 4 * l.depth

abbrev pub decreases-factor : goal.decreases-factor
decreases-factor l = 4 * l.depth + 1

abbrev pub decreases-product : goal.decreases-product
decreases-product l = 4 * l.depth + 2

abbrev pub decreases-sum : goal.decreases-sum
decreases-sum l = 4 * l.depth + 3

abbrev pub invariant-product-loop-operator : goal.invariant-product-loop-operator
invariant-product-loop-operator l = let inner = spec.bracketed l.depth in record {
  rest : IsRest (eat_operator Product) (spec.operation (spec.factor inner)) (spec.product inner l.fn.reader) l.value l.reader;
  shorter : length l.reader.rest ≤ length l.fn.reader.rest;
}

abbrev pub decreases-product-loop-operator : goal.decreases-product-loop-operator
decreases-product-loop-operator l = length l.reader.rest

abbrev pub invariant-sum-loop-operator : goal.invariant-sum-loop-operator
invariant-sum-loop-operator l = let inner = spec.bracketed l.depth in record {
  rest : IsRest (eat_operator Sum) (spec.operation (spec.product inner)) (spec.sum inner l.fn.reader) l.value l.reader;
  shorter : length l.reader.rest ≤ length l.fn.reader.rest;
}

abbrev pub decreases-sum-loop-operator : goal.decreases-sum-loop-operator
decreases-sum-loop-operator l = length l.reader.rest

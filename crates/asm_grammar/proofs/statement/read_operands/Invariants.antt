use Rattle.std.proofs.Common.{◌+◌, ◌≤◌, length}
use Rattle.asm_grammar.specs.Statements as spec
use Rattle.asm_grammar.proofs.Repeats.{IsRest}
use Rattle.asm_grammar.proofs.statement.read_operands.Given as goal

abbrev pub invariant-operands : goal.invariant-operands
invariant-operands l = record {
  rest : IsRest spec.separator spec.with_operand (spec.operands l.fn.reader) l.operands.items l.reader;
  shorter : length l.reader.rest ≤ length l.fn.reader.rest;
  few : length l.operands.items + length l.reader.rest ≤ length l.fn.reader.rest + 1;
}

abbrev pub decreases-operands : goal.decreases-operands
decreases-operands l = length l.reader.rest

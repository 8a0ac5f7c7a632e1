use Rattle.std.proofs.Common.{◌≤◌, length}
use Rattle.asm_grammar.specs.Reader.{eat_label}
use Rattle.asm_grammar.specs.Statements as spec
use Rattle.asm_grammar.proofs.Repeats.{IsRest}
use Rattle.asm_grammar.proofs.statement.read_labels.Given as goal

abbrev pub invariant-loop-label : goal.invariant-loop-label
invariant-loop-label l = record {
  rest : IsRest eat_label spec.with_label (spec.labels l.fn.reader) l.labels.items l.reader;
  shorter : length l.reader.rest ≤ length l.fn.reader.rest;
}

abbrev pub decreases-loop-label : goal.decreases-loop-label
decreases-loop-label l = length l.reader.rest

use Rattle.std.proofs.Common.{arith, refl}
use Rattle.asm_grammar.specs.Reader.{eat_label}
use Rattle.asm_grammar.specs.Statements as spec
use Rattle.asm_grammar.proofs.Repeats.{goes_on}
use Rattle.asm_grammar.proofs.statement.read_labels.Goals as goal

pub loop-label-preserved : goal.loop-label-preserved
loop-label-preserved c = record {
  rest = goes_on eat_label spec.with_label (spec.labels c.args.reader.now) c.loop-label.labels.items c.push.new.self.items c.loop-label.reader c.eat_label.new.self c.eat_label.new.self c.in-Some.label
      c.loop-label.invariant.rest c.in-Some.ensures.0 c.in-Some.ensures.1 (rw c.in_ok-push.ensures.items refl) (omega arith);
  shorter = omega (arith, c.loop-label.invariant.shorter, c.in-Some.ensures.1);
}

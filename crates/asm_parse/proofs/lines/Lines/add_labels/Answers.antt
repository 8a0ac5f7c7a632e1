use Rattle.std.proofs.Common.{Bool, ap, ◌∙◌, sym, arith}
use Rattle.std.specs.Prelude.{◌&&◌}
use Rattle.asm_parse.specs.Lines.{Gathered, labelled, are_new}
use Rattle.asm_parse.proofs.Loops.{goes_on, is_done}
use Rattle.asm_parse.proofs.LabelLemmas.{label_turn, label_end}
use Rattle.asm_parse.proofs.lines.Lines.add_labels.Goals as goal

pub loop-label-preserved : goal.loop-label-preserved
loop-label-preserved c = record {
  adds = goes_on labelled c.args.labels.now c.loop-label.label-index (labelled c.args.self.now c.args.labels.now) c.loop-label.self c.add_label.new.self c.label-item.result
      c.loop-label.invariant.adds c.loop-label-test.true c.label-item.is (λ rest. ap (λ (g : Gathered). labelled g rest) (sym c.in_ok-is_new.ensures.adds));
  added = goes_on (λ (s : Gathered × Bool) rest. s.1 && are_new s.0 rest) c.args.labels.now c.loop-label.label-index (are_new c.args.self.now c.args.labels.now) (c.loop-label.self, c.loop-label.added) (c.add_label.new.self, c.both-added.result) c.label-item.result
      c.loop-label.invariant.added c.loop-label-test.true c.label-item.is
      (label_turn c.loop-label.self c.add_label.new.self c.label-item.result c.loop-label.added c.in_ok-is_new.is_new c.both-added.result c.in_ok-is_new.ensures.adds c.in_ok-is_new.ensures.added c.both-added.ensures);
}

pub returns-clause-added : goal.returns-clause-added
returns-clause-added c =
    sym (label_end c.loop-label.self c.loop-label.added)
    ∙ is_done (λ (s : Gathered × Bool) rest. s.1 && are_new s.0 rest) c.args.labels.now c.loop-label.label-index (are_new c.args.self.now c.args.labels.now) (c.loop-label.self, c.loop-label.added) c.loop-label.invariant.added (omega (arith, c.loop-label-test.false))

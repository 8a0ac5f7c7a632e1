use Rattle.std.proofs.Common.{◌≡◌, drop}
use Rattle.std.specs.Prelude.{◌&&◌}
use Rattle.asm_parse.specs.Lines.{labelled, are_new}
use Rattle.asm_parse.proofs.lines.Lines.add_labels.Given as goal

abbrev pub invariant-loop-label : goal.invariant-loop-label
invariant-loop-label l = record {
  adds : labelled l.self (drop l.label-index l.labels) ≡ labelled l.fn.self l.labels;
  added : (l.added && are_new l.self (drop l.label-index l.labels)) ≡ are_new l.fn.self l.labels;
}

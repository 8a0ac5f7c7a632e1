use Rattle.link_tables.proofs.NumberingLemmas.{Numbered}
use Rattle.link_tables.proofs.numbering.number_lines.Given as goal

abbrev pub invariant-loop-line : goal.invariant-loop-line
invariant-loop-line g l = Numbered l.initial.files l.files l.lines l.line-index

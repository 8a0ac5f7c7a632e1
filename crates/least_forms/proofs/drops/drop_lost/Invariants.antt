use Rattle.least_forms.proofs.DropLemmas.{Dropping}
use Rattle.least_forms.proofs.drops.drop_lost.Given as goal

abbrev pub invariant-loop-line : goal.invariant-loop-line
invariant-loop-line g l = Dropping (g.L.Lines.problem l.lines) l.initial.forms l.forms l.line

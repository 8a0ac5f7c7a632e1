use Rattle.least_forms.proofs.LoopLemmas.{Scanning}
use Rattle.least_forms.proofs.work.next_lost.Given as goal

abbrev pub invariant-loop-line : goal.invariant-loop-line
invariant-loop-line g l = Scanning (g.L.Lines.problem l.lines) l.forms l.distances l.marks l.line

use Rattle.least_forms.specs.Work.{IsWindow, shorts}
use Rattle.least_forms.proofs.LoopLemmas.{Scanning}
use Rattle.least_forms.proofs.work.settle.Given as goal

abbrev pub invariant-loop-line : goal.invariant-loop-line
invariant-loop-line g l = record {
  scanning : Scanning (g.L.Lines.problem l.lines) l.forms l.distances l.marks l.from;
  window : IsWindow (g.L.Lines.problem l.lines) l.forms l.window;
}

abbrev pub decreases-loop-line : goal.decreases-loop-line
decreases-loop-line g l = shorts l.forms

use Rattle.least_forms.proofs.LoopLemmas.{Growing}
use Rattle.least_forms.proofs.work.grow.Given as goal

abbrev pub invariant-loop-other : goal.invariant-loop-other
invariant-loop-other g l =
    Growing (g.L.Lines.problem l.lines) l.forms l.line l.growth l.first l.other l.initial.distances l.distances l.initial.marks l.marks

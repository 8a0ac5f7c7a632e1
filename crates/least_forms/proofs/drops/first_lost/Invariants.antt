use Rattle.std.proofs.Common.{ℕ, ◌<◌}
use Rattle.least_forms.specs.Problem.{at}
use Rattle.least_forms.specs.Assignment.{DoesReach}
use Rattle.least_forms.proofs.drops.first_lost.Given as goal

abbrev pub invariant-loop-line : goal.invariant-loop-line
invariant-loop-line g l = (k : ℕ) → k < l.line → DoesReach (g.L.Lines.problem l.lines) (at l.forms) k

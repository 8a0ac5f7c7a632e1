use Rattle.std.proofs.Common.{ℕ, ◌<◌, ◌≤◌}
use Rattle.least_forms.specs.Problem.{apart}
use Rattle.least_forms.specs.Work.{IsShort}
use Rattle.least_forms.proofs.placing.window.Given as goal

abbrev pub invariant-loop-line : goal.invariant-loop-line
invariant-loop-line g l = (k goal : ℕ) → k < l.line → IsShort (g.L.Lines.problem l.lines) l.forms k goal → apart k goal ≤ l.window

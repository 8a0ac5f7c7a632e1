use Rattle.std.proofs.Common.{◌↔◌, ◌+◌, ◌*◌, ◌≤◌, drop}
use Rattle.branch_size.specs.Rows.{Reaches}
use Rattle.branch_size.proofs.forms.form_reaches.Given as goal

abbrev pub invariant-loop-index : goal.invariant-loop-index
invariant-loop-index g l = record {
  near : l.at ≤ l.place + 15 * l.index;
  same : Reaches g.T.Processor.instructions g.T.Processor.fits g.T.Target.aiming (drop l.index l.form) l.at l.goal
      ↔ Reaches g.T.Processor.instructions g.T.Processor.fits g.T.Target.aiming l.form l.place l.goal;
}

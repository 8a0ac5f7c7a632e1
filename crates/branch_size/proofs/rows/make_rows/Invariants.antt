use Rattle.std.proofs.Common.{◌≡◌, map, take}
use Rattle.branch_size.specs.Rows.{row_of}
use Rattle.branch_size.proofs.rows.make_rows.Given as goal

abbrev pub invariant-loop-line : goal.invariant-loop-line
invariant-loop-line g l =
    l.rows.items ≡ map (row_of g.T.Processor.instructions g.T.Target.aiming (g.T.Target.check l.body.frame) l.body.code) (take l.line l.body.code)

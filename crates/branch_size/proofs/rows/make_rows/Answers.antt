use Rattle.std.proofs.Common.{◌≡◌, length, ap, arith}
use Rattle.branch_size.specs.Rows.{row_of}
use Rattle.branch_size.proofs.RowLemmas.{rows_more}
use Rattle.branch_size.proofs.rows.make_rows.Goals as goal

pub loop-line-preserved : goal.loop-line-preserved
loop-line-preserved g c =
    let whole : length c.as_slice-line-end.result.now ≡ length c.args.body.now.code = ap length c.as_slice-line-end.ensures in
    let more = rows_more (row_of g.T.Processor.instructions g.T.Target.aiming (g.T.Target.check c.args.body.now.frame) c.args.body.now.code)
    c.args.body.now.code c.loop-line.line c.make_row.result (omega arith) c.make_row.ensures in
    cc (c.in_ok-push.ensures.items, more)

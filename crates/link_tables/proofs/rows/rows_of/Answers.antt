use Rattle.std.proofs.Common.{ap}
use Rattle.link_tables.specs.Rows.{row_of}
use Rattle.link_tables.proofs.RowLemmas.{row_next}
use Rattle.link_tables.proofs.rows.rows_of.Goals as goal

pub loop-index-preserved : goal.loop-index-preserved
loop-index-preserved g c =
    row_next c.args.func.now.lines.now c.args.func.now.places.now c.args.func.now.length c.loop-index.index c.line-item.result c.line-item.result
    _ c.loop-index.rows.items c.push.new.self.items c.loop-index-test.true c.line-item.is c.loop-index.invariant
    (ap (row_of c.line-item.result) c.end_of.ensures) c.in_ok-push.ensures.items

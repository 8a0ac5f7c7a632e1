use Rattle.link_tables.proofs.NumberingLemmas.{line_next}
use Rattle.link_tables.proofs.numbering.number_lines.Goals as goal

pub loop-line-preserved : goal.loop-line-preserved
loop-line-preserved g c =
    line_next c.args.files.now c.loop-line.files c.number.new.self c.args.lines.now c.loop-line.line-index c.line-item.result c.line-item.result
    c.loop-line-test.true c.line-item.is c.loop-line.invariant c.number.ensures.build c.in_ok-number.ensures.used

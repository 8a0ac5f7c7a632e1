use Rattle.link_tables.proofs.NumberingLemmas.{func_next}
use Rattle.link_tables.proofs.numbering.number_all.Goals as goal

pub loop-func-preserved : goal.loop-func-preserved
loop-func-preserved g c =
    func_next c.args.files.now c.loop-func.files c.number_lines.new.files c.args.funcs.now c.loop-func.func-index c.func-item.result c.func-item.result
    c.loop-func-test.true c.func-item.is c.loop-func.invariant c.in_ok-number_lines.ensures.build c.in_ok-number_lines.ensures.used

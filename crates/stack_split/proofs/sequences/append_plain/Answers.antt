use Rattle.stack_split.proofs.AppendLemmas.{appended_plain}
use Rattle.stack_split.proofs.sequences.append_plain.Goals as goal

pub loop-index-preserved : goal.loop-index-preserved
loop-index-preserved g c =
    appended_plain c.args.code.now c.loop-index.code c.push.new.self c.args.more.now c.loop-index.index c.get.result
    c.loop-index.invariant c.get.ensures c.push.ensures

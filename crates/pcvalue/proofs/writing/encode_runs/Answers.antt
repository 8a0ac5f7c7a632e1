use Rattle.std.proofs.Common.{pos}
use Rattle.pcvalue.proofs.PushLemmas.{wrote_next}
use Rattle.pcvalue.proofs.writing.encode_runs.Goals as goal

pub loop-run-preserved : goal.loop-run-preserved
loop-run-preserved c =
    wrote_next c.args.quantum c.args.runs.now c.loop-run.run-index c.loop-run.last (record { end = 0; value = pos 0 })
    c.loop-run.bytes.items c.push_run.new.bytes.items c.loop-run-test.true c.loop-run.invariant c.in_ok-push_run.ensures

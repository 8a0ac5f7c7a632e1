use Rattle.pcvalue.proofs.PushLemmas.{Wrote}
use Rattle.pcvalue.proofs.writing.encode_runs.Given as goal

abbrev pub invariant-loop-run : goal.invariant-loop-run
invariant-loop-run l = Wrote l.quantum l.runs l.run-index l.last l.bytes.items

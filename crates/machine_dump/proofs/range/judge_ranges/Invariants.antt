use Rattle.std.proofs.Common.{length}
use Rattle.machine_dump.proofs.JudgeLemmas.{Reached}
use Rattle.machine_dump.proofs.range.judge_ranges.Given as goal

abbrev pub invariant-loop-rest : goal.invariant-loop-rest
invariant-loop-rest l = Reached l.body l.rest l.end l.number

abbrev pub decreases-loop-rest : goal.decreases-loop-rest
decreases-loop-rest l = length l.rest

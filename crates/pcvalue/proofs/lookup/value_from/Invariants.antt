use Rattle.std.proofs.Common.{◌≡◌, ◌-◌, length}
use Rattle.pcvalue.specs.Runs.{runs_of, runs_within}
use Rattle.pcvalue.specs.Table.{answer_of}
use Rattle.pcvalue.specs.Steps.{point_of}
use Rattle.pcvalue.proofs.lookup.value_from.Given as goal

abbrev pub invariant-runs : goal.invariant-runs
invariant-runs l =
    answer_of l.place (runs_within (length l.bytes - l.counter) l.quantum l.first (point_of l.cursor))
    ≡ answer_of l.place (runs_of l.quantum l.bytes)

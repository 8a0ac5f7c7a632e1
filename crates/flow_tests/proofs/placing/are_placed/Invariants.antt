use Rattle.std.proofs.Common.{ℕ, ◌<◌}
use Rattle.flow_tests.specs.Neighbours.{StandsRight}
use Rattle.flow_tests.proofs.placing.are_placed.Given as goal

abbrev pub invariant-loop-number : goal.invariant-loop-number
invariant-loop-number g l = (k : ℕ) → k < l.number → StandsRight l.code k

use Rattle.std.proofs.Common.{true}
use Rattle.std.proofs.lemmas.List.Sorted.{non_decreasing_from_is_sorted}
use Rattle.flow_tests.proofs.placing.judged.Goals as goal

pub flow_ok-requires-clause-ordered : goal.flow_ok-requires-clause-ordered
flow_ok-requires-clause-ordered g c =
    non_decreasing_from_is_sorted c.args.out.now.entries.now true c.if-not-is_sorted.ensures.cases

pub flow_ok-requires-clause-routines : goal.flow_ok-requires-clause-routines
flow_ok-requires-clause-routines g c =
    non_decreasing_from_is_sorted c.args.out.now.growth.now true c.if-not-is_sorted-2.ensures.cases

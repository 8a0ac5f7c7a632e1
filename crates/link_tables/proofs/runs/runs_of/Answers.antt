use Rattle.std.proofs.Common.{subst, sym}
use Rattle.pcvalue.specs.Writing.{AreRuns}
use Rattle.link_tables.proofs.MergedLemmas.{merged_runs}
use Rattle.link_tables.proofs.runs.runs_of.Goals as goal

pub returns-clause-runs : goal.returns-clause-runs
returns-clause-runs c quantum counts whole =
    subst (AreRuns quantum) (sym c.in_ok-runs.ensures) (merged_runs quantum c.args.stretches.now c.requires counts whole)

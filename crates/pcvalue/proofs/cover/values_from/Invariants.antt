use Rattle.std.proofs.Common.{◌≡◌, true, ◌++◌, drop}
use Rattle.std.specs.Option.{option_map}
use Rattle.pcvalue.specs.Runs.{start}
use Rattle.pcvalue.specs.Steps.{reading_of}
use Rattle.pcvalue.specs.Spread.{spread, least_run}
use Rattle.pcvalue.proofs.cover.values_from.Given as goal

abbrev pub invariant-loop-end : goal.invariant-loop-end
invariant-loop-end l =
    option_map (λ more. l.values.items ++ more) (spread l.quantum (reading_of l.step) (drop l.end-index l.ends))
    ≡ spread l.quantum (least_run l.quantum true (start l.bytes)) l.ends

use Rattle.std.proofs.Common.{◌-◌}
use Rattle.machine_dump.specs.Search.{IsWindow}
use Rattle.machine_dump.proofs.search.narrowed.Given as goal

abbrev pub invariant-loop-window : goal.invariant-loop-window
invariant-loop-window l = IsWindow l.body l.at l.window

abbrev pub decreases-loop-window : goal.decreases-loop-window
decreases-loop-window l = l.window.high - l.window.from

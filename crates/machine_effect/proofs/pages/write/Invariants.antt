use Rattle.std.proofs.Common.{length, ◌-◌, ◌≤◌}
use Rattle.machine_effect.specs.Pages.{SamePages, WritesFirst}
use Rattle.machine_effect.proofs.pages.write.Given as goal

abbrev pub invariant-loop-done : goal.invariant-loop-done
invariant-loop-done l = record {
  within : l.done ≤ length l.bytes;
  written : WritesFirst l.initial.pages l.pages l.at l.done l.bytes;
  same : SamePages l.initial.pages l.pages;
}

abbrev pub decreases-loop-done : goal.decreases-loop-done
decreases-loop-done l = length l.bytes - l.done

use Rattle.std.proofs.Common.{◌≡◌, ◌++◌}
use Rattle.link_names.specs.Definitions.{each}
use Rattle.link_values.specs.Kept.{unit_kept}
use Rattle.link_values.proofs.EachLemmas.{Rest}
use Rattle.link_values.proofs.kept.kept_values.Given as goal

abbrev pub invariant-loop-number : goal.invariant-loop-number
invariant-loop-number l = l.kept.items ++ Rest (unit_kept l.names) l.units l.number ≡ each (unit_kept l.names) l.units

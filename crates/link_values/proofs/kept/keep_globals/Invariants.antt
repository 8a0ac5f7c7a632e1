use Rattle.std.proofs.Common.{◌≡◌, ◌++◌}
use Rattle.link_names.specs.Definitions.{each}
use Rattle.link_values.specs.Kept.{value_kept}
use Rattle.link_values.proofs.EachLemmas.{Rest}
use Rattle.link_values.proofs.kept.keep_globals.Given as goal

abbrev pub invariant-loop-number : goal.invariant-loop-number
invariant-loop-number l =
    l.kept.items ++ Rest (value_kept l.names l.unit l.symbols) l.globals l.number
    ≡ l.initial.kept.items ++ each (value_kept l.names l.unit l.symbols) l.globals

use Rattle.link_names.specs.Definitions.{unit_entries}
use Rattle.link_names.proofs.EachLemmas.{Added}
use Rattle.link_names.proofs.names.Names.add_units.Given as goal

abbrev pub invariant-loop-number : goal.invariant-loop-number
invariant-loop-number l = Added unit_entries l.units l.initial.self l.number l.self

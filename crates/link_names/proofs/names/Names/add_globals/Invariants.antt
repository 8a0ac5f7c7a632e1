use Rattle.std.proofs.Common.{◌∷◌, []}
use Rattle.link_names.specs.Definitions as spec
use Rattle.link_names.proofs.EachLemmas.{Added}
use Rattle.link_names.proofs.names.Names.add_globals.Given as goal

abbrev pub invariant-loop-number : goal.invariant-loop-number
invariant-loop-number l = Added (λ number item. spec.value_entry l.unit l.symbols number item ∷ []) l.globals l.initial.self l.number l.self

use Rattle.std.proofs.Common.{◌∷◌, []}
use Rattle.link_names.specs.Definitions as spec
use Rattle.link_names.proofs.EachLemmas.{Added}
use Rattle.link_names.proofs.names.Names.add_outside.Given as goal

abbrev pub invariant-loop-number : goal.invariant-loop-number
invariant-loop-number l = Added (λ number item. spec.outside_entry number item ∷ []) l.outside l.initial.self l.number l.self

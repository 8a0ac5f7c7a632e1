use Rattle.std.proofs.Common.{map}
use Rattle.link_parts.specs.Symbols.{value_thing}
use Rattle.link_parts.proofs.DefinedLemmas.{AreMade}
use Rattle.link_parts.proofs.defined.defined_values.Given as goal

abbrev pub invariant-loop-number : goal.invariant-loop-number
invariant-loop-number l = AreMade 1 l.from (map (value_thing l.units) l.kept) l.at l.number l.defined.items

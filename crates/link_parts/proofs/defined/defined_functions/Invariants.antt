use Rattle.std.proofs.Common.{map}
use Rattle.link_build.specs.Functions.{seen}
use Rattle.link_plan.specs.Addresses.{text_address}
use Rattle.link_parts.specs.Symbols.{function_thing}
use Rattle.link_parts.proofs.DefinedLemmas.{AreMade}
use Rattle.link_parts.proofs.defined.defined_functions.Given as goal

abbrev pub invariant-loop-number : goal.invariant-loop-number
invariant-loop-number g l = AreMade 0 text_address (map function_thing (map seen l.funcs)) l.at l.number l.defined.items

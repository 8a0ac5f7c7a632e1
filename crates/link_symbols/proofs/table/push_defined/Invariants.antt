use Rattle.std.proofs.Common.{take}
use Rattle.link_symbols.proofs.PushLemmas.{defined_symbols, Pushed}
use Rattle.link_symbols.proofs.table.push_defined.Given as goal

abbrev pub invariant-loop-one : goal.invariant-loop-one
invariant-loop-one l = Pushed l.initial.symbols.items (defined_symbols l.kind l.local (take l.one-index l.defined)) l.symbols.items

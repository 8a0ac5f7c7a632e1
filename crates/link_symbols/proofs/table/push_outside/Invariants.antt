use Rattle.std.proofs.Common.{take, map}
use Rattle.link_symbols.specs.Table.{outside_symbol}
use Rattle.link_symbols.proofs.PushLemmas.{Pushed}
use Rattle.link_symbols.proofs.table.push_outside.Given as goal

abbrev pub invariant-loop-name : goal.invariant-loop-name
invariant-loop-name l = Pushed l.initial.symbols.items (map outside_symbol (take l.name-index l.outside)) l.symbols.items

use Rattle.std.proofs.Common.{◌≡◌, ◌++◌, drop, map}
use Rattle.link_plan.specs.Addresses as spec
use Rattle.link_plan.proofs.symbols.symbol_addresses.Given as goal

abbrev pub invariant-loop-symbol : goal.invariant-loop-symbol
invariant-loop-symbol l =
    l.found.items ++ map (spec.symbol_address l.names l.addresses l.unit) (drop l.symbol-index l.symbols)
    ≡ map (spec.symbol_address l.names l.addresses l.unit) l.symbols

use Rattle.std.proofs.Common.{ℕ, [], ◌∷◌, ◌++◌, map, ap, ◌∙◌, arith}
use Rattle.link_plan.specs.Addresses as spec
use Rattle.link_plan.proofs.SizeLemmas.{mapped_more, mapped_all}
use Rattle.link_plan.proofs.symbols.symbol_addresses.Goals as goal

pub loop-symbol-preserved : goal.loop-symbol-preserved
loop-symbol-preserved c =
    let make = spec.symbol_address c.args.names.now c.args.addresses.now c.args.unit in
    mapped_more make c.args.symbols.now c.loop-symbol.symbol-index c.symbol-item.result c.loop-symbol.found.items _
    (map make c.args.symbols.now) (omega arith) c.symbol-item.is c.loop-symbol.invariant (c.in_ok-push.ensures.items ∙ ap (λ (address : ℕ). c.loop-symbol.found.items ++ address ∷ []) c.symbol_address.ensures)

pub returns : goal.returns
returns c =
    let make = spec.symbol_address c.args.names.now c.args.addresses.now c.args.unit in
    mapped_all make c.args.symbols.now c.loop-symbol.symbol-index c.loop-symbol.found.items (map make c.args.symbols.now) (omega arith)
    c.loop-symbol.invariant

use Rattle.std.proofs.Common.{Option, ap, ◌∙◌}
use Rattle.asm_parse.specs.declared.unit.Symbol.{Symbol}
use Rattle.link_parts.specs.Symbols.{part_of}
use Rattle.link_parts.proofs.DefinedLemmas.{declared_here}
use Rattle.link_parts.proofs.defined.defined_value.Goals as goal

pub returns-clause-symbol : goal.returns-clause-symbol
returns-clause-symbol c =
    let value = c.args.value.now in
    c.defined.ensures.symbol 1
    ∙ ap (λ (found : Option Symbol). part_of 1 (found, value.size) c.args.at)
    (declared_here c.args.units.now value c.requires c.index-units-value.result c.as_slice.result.now c.as_slice-2.result.now _
    c.index-as_slice-global.result c.index-units-value.is c.as_slice.ensures c.as_slice-2.ensures c.index-as_slice-global.is)

use Rattle.std.proofs.Common.{◌≡◌, ℕ, get_or, Option, Some, List, ap, sym, subst, ◌∙◌, arith}
use Rattle.asm_parse.specs.declared.unit.Symbol.{Symbol}
use Rattle.link_build.specs.Functions.{seen}
use Rattle.link_parts.specs.Symbols.{part_of}
use Rattle.link_parts.proofs.DefinedLemmas.{symbol_here}
use Rattle.link_parts.proofs.defined.defined_function.Goals as goal

pub returns-clause-symbol : goal.returns-clause-symbol
returns-clause-symbol g c =
    let func = seen c.args.func.now in
    let symbol = c.index-as_slice-func.result in
    let number = func.part.function.now.sym in
    let size : c.from.result ≡ func.part.laid.sizes.length = omega arith in
    let read : symbol ≡ get_or func.unit.symbols number symbol
    = subst (λ (symbols : List Symbol). symbol ≡ get_or symbols number symbol) c.as_slice.ensures c.index-as_slice-func.is in
    c.defined.ensures.symbol 0
    ∙ ap (λ (n : ℕ). part_of 0 (Some symbol, n) c.args.at) size
    ∙ ap (λ (found : Option Symbol). part_of 0 (found, func.part.laid.sizes.length) c.args.at) (sym (symbol_here func c.requires symbol read))

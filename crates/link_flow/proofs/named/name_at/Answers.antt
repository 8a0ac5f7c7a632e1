use Rattle.std.proofs.Common.{List, ap, ◌∙◌}
use Rattle.asm_parse.specs.declared.unit.Symbol.{Symbol}
use Rattle.unit_listing.specs.Lines.{symbol_name}
use Rattle.link_flow.specs.Named.{refer_name}
use Rattle.link_flow.proofs.named.name_at.Goals as goal

pub returns : goal.returns
returns g c =
    let part = c.args.func.now.part.now in
    let line = c.line_at-line.result in
    record {
      line = line;
      here = c.line_at-line.ensures;
      named = c.in_ok-from_slice.ensures ∙ c.refer_name-name.ensures
          ∙ ap (λ (symbols : List Symbol). refer_name symbols part.laid.flags (symbol_name symbols part.function.now.sym) line.refer)
          c.as_slice-symbols.ensures;
    }

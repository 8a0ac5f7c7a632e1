use Rattle.std.proofs.Common.{◌≡◌, ◌++◌, ap, ◌∙◌}
use Rattle.unit_listing.specs.Lines.{line_text, refer_text, shown_at}
use Rattle.unit_listing.proofs.JoinedLemmas.{on_ok}
use Rattle.unit_listing.proofs.lines.push_instr.Goals as goal

pub returns : goal.returns
returns g c =
    let symbol = refer_text c.args.symbols.now c.args.laid.now.flags c.args.refer in
    let spot = c.args.spot.now in
    on_ok c.push_said.result (λ behind. (
      line_text spot.at spot.line c.as_slice.result.now symbol,
      record {
        shown = c.shown-shown.result;
        stands = c.shown-shown.ensures;
        whole = ap (λ said. line_text spot.at spot.line said symbol) (c.as_slice.ensures ∙ c.in_ok-said.ensures
            ∙ ap (g.T.Processor.instructions.text c.shown-shown.result) c.shown_at.ensures);
      },
      behind,
    )) c.push_said.ensures

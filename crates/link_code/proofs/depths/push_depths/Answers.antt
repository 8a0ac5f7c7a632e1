use Rattle.std.proofs.Common.{◌≡◌, ℕ, length, ap, ◌∙◌}
use Rattle.std.specs.Prelude.{replicate}
use Rattle.unit_listing.specs.Kit.{kit_of}
use Rattle.unit_listing.proofs.JoinedLemmas.{on_ok}
use Rattle.link_code.specs.Code.{form_in}
use Rattle.link_code.proofs.depths.push_depths.Goals as goal

pub returns : goal.returns
returns g c =
    let kit = kit_of g.T.Processor.instructions g.T.Processor.fits g.T.Processor.MACHINE g.T.Processor.QUANTUM g.T.Processor.SHAPE g.T.Target.selection
    g.T.Target.aiming g.T.Target.entry g.T.Target.check g.T.Target.begins in
    let laid = c.args.laid.now in
    let line = c.line_at-line.result in
    let form : c.forms-form.result ≡ form_in kit laid c.args.number line
    = c.forms-form.ensures ∙ ap (kit.aiming.forms line.instr) c.form_at.ensures in
    let count : c.len.result ≡ length (form_in kit laid c.args.number line) = c.len.ensures.exact ∙ ap length form in
    on_ok c.push_depth.result (λ behind. (
      replicate c.len.result line.depth,
      record {
        line = line;
        here = c.line_at-line.ensures;
        each = ap (λ (n : ℕ). replicate n line.depth) count;
      },
      behind,
    )) c.push_depth.ensures

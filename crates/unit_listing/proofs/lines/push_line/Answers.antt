use Rattle.std.proofs.Common.{◌≡◌, slice_index, ap, ◌∙◌}
use Rattle.unit_listing.specs.Kit.{kit_of}
use Rattle.unit_listing.proofs.JoinedLemmas.{on_ok}
use Rattle.unit_listing.proofs.LineLemmas.{line_shown}
use Rattle.unit_listing.proofs.lines.push_line.Goals as goal

pub returns : goal.returns
returns g c =
    let kit = kit_of g.T.Processor.instructions g.T.Processor.fits g.T.Processor.MACHINE g.T.Processor.QUANTUM g.T.Processor.SHAPE g.T.Target.selection
    g.T.Target.aiming g.T.Target.entry g.T.Target.check g.T.Target.begins in
    let laid = c.args.laid.now in
    let line = c.line_at-line.result in
    on_ok c.push_form.result (λ appended. (
      appended.0,
      line_shown kit c.args.symbols.now laid.flags (g.T.Target.check laid.body.frame) laid.body.code laid.sizes c.args.number line
          c.place_at.result c.place_at-2.result c.forms-form.result appended.0 c.line_at-line.ensures
          (c.place_at.ensures.place ∙ ap (slice_index laid.sizes.places) c.saturating_sub.ensures) c.place_at-2.ensures.place
          (c.forms-form.ensures ∙ ap (kit.aiming.forms line.instr) c.form_at.ensures) appended.1,
      appended.2,
    )) c.push_form.ensures

use Rattle.std.proofs.Common.{ℕ, ◌+◌, slice_index, ap, ◌∙◌}
use Rattle.unit_listing.specs.Kit.{kit_of}
use Rattle.unit_listing.proofs.JoinedLemmas.{on_ok}
use Rattle.link_code.proofs.LineLemmas.{line_added, line_far}
use Rattle.link_code.proofs.placing.push_line.Goals as goal

pub returns-clause-ok : goal.returns-clause-ok
returns-clause-ok g c =
    let kit = kit_of g.T.Processor.instructions g.T.Processor.fits g.T.Processor.MACHINE g.T.Processor.QUANTUM g.T.Processor.SHAPE g.T.Target.selection
    g.T.Target.aiming g.T.Target.entry g.T.Target.check g.T.Target.begins in
    let laid = c.args.laid.now in
    let site = c.args.site.now in
    let line = c.line_at-line.result in
    on_ok c.push_form.result
    (line_added kit site laid c.requires.ready c.args.number line (site.entry + c.place_at.result) (site.entry + c.place_at-2.result)
    c.forms-form.result c.args.placed.now.items c.push_form.new.placed.items c.requires.within c.line_at-line.ensures
    (ap (λ (place : ℕ). site.entry + place) (c.place_at.ensures.place ∙ ap (slice_index laid.sizes.places) c.saturating_sub.ensures))
    (ap (λ (place : ℕ). site.entry + place) c.place_at-2.ensures.place)
    (c.forms-form.ensures ∙ ap (kit.aiming.forms line.instr) c.form_at.ensures)) c.push_form.ensures.ok

pub returns-clause-far : goal.returns-clause-far
returns-clause-far g c = λ k same.
    let kit = kit_of g.T.Processor.instructions g.T.Processor.fits g.T.Processor.MACHINE g.T.Processor.QUANTUM g.T.Processor.SHAPE g.T.Target.selection
    g.T.Target.aiming g.T.Target.entry g.T.Target.check g.T.Target.begins in
    let laid = c.args.laid.now in
    let site = c.args.site.now in
    let line = c.line_at-line.result in
    let found = c.push_form.ensures.beyond k same in (
      found.0,
      line_far kit site laid c.requires.ready g.met.T.Target.formed c.args.number line (site.entry + c.place_at.result) (site.entry + c.place_at-2.result)
          c.forms-form.result c.line_at-line.ensures
          (ap (λ (place : ℕ). site.entry + place) (c.place_at.ensures.place ∙ ap (slice_index laid.sizes.places) c.saturating_sub.ensures))
          (ap (λ (place : ℕ). site.entry + place) c.place_at-2.ensures.place)
          (c.forms-form.ensures ∙ ap (kit.aiming.forms line.instr) c.form_at.ensures) found.1,
    )

use Rattle.std.proofs.Common.{refl, arith}
use Rattle.std.proofs.lemmas.Option.{slice_get_read}
use Rattle.unit_listing.specs.Kit.{kit_of}
use Rattle.link_text.proofs.TextLemmas.{pushed}
use Rattle.link_text.proofs.text.text_of.Goals as goal

pub loop-code-preserved : goal.loop-code-preserved
loop-code-preserved g c =
    let number = c.loop-code.code-index in
    let here = slice_get_read c.args.codes.now _ number c.code-item.result refl (omega arith) c.code-item.is in
    pushed (kit_of g.T.Processor.instructions g.T.Processor.fits g.T.Processor.MACHINE g.T.Processor.QUANTUM g.T.Processor.SHAPE g.T.Target.selection
    g.T.Target.aiming g.T.Target.entry g.T.Target.check g.T.Target.begins) g.T.Processor.GROWTH c.args.codes.now number c.code-item.result _ _
    here c.loop-code.invariant (rw c.as_slice.ensures.value at c.in_ok-push_code.ensures)

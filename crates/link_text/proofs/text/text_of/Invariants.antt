use Rattle.std.proofs.Common.{◌≡◌, take}
use Rattle.unit_listing.specs.Kit.{kit_of}
use Rattle.link_text.specs.Text.{image_text}
use Rattle.link_text.proofs.text.text_of.Given as goal

abbrev pub invariant-loop-code : goal.invariant-loop-code
invariant-loop-code g l =
    l.text.items ≡ image_text (kit_of g.T.Processor.instructions g.T.Processor.fits g.T.Processor.MACHINE g.T.Processor.QUANTUM g.T.Processor.SHAPE g.T.Target.selection
    g.T.Target.aiming g.T.Target.entry g.T.Target.check g.T.Target.begins) g.T.Processor.GROWTH (take l.code-index l.codes)

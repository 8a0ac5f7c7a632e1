use Rattle.std.proofs.Common.{◌∙◌, arith, take}
use Rattle.link_text.specs.Text.{HasSize}
use Rattle.unit_listing.specs.Kit.{kit_of}
use Rattle.link_text.proofs.TextLemmas.{sizes_add_up, zip_length, zip_take}
use Rattle.link_text.proofs.laws.functions_stand.Goals as goal

pub returns-clause-place : goal.returns-clause-place
returns-clause-place g c = λ sizes codes number are within.
    let kit = kit_of g.T.Processor.instructions g.T.Processor.fits g.T.Processor.MACHINE g.T.Processor.QUANTUM g.T.Processor.SHAPE g.T.Target.selection
    g.T.Target.aiming g.T.Target.entry g.T.Target.check g.T.Target.begins in
    c.padded_sizes_add_up.ensures.place number sizes (omega (arith, within, zip_length (HasSize kit) sizes codes are))
    ∙ sizes_add_up kit g.T.Processor.GROWTH (take number sizes) (take number codes) (zip_take (HasSize kit) number sizes codes are)

pub returns-clause-end : goal.returns-clause-end
returns-clause-end g c = λ sizes codes are.
    let kit = kit_of g.T.Processor.instructions g.T.Processor.fits g.T.Processor.MACHINE g.T.Processor.QUANTUM g.T.Processor.SHAPE g.T.Target.selection
    g.T.Target.aiming g.T.Target.entry g.T.Target.check g.T.Target.begins in
    c.padded_sizes_add_up.ensures.end sizes ∙ sizes_add_up kit g.T.Processor.GROWTH sizes codes are

use Rattle.unit_listing.specs.Kit.{kit_of}
use Rattle.link_answer.proofs.PlacedLemmas.{placed_in}
use Rattle.link_answer.proofs.laws.refusals_are_placed.Goals as goal

pub returns : goal.returns
returns g c = λ build refusal valid bad.
    placed_in
    (kit_of g.T.Processor.instructions g.T.Processor.fits g.T.Processor.MACHINE g.T.Processor.QUANTUM g.T.Processor.SHAPE g.T.Target.selection
    g.T.Target.aiming g.T.Target.entry g.T.Target.check g.T.Target.begins)
    build valid (λ names code. c.functions_are_sound.ensures build names code valid) refusal bad

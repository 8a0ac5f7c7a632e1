use Rattle.std.proofs.Common.{◌∷◌}
use Rattle.image_rules.specs.Machine.{machine_of}
use Rattle.text_chain.proofs.MomentLemmas.{all_printed}
use Rattle.text_chain.proofs.laws.kept_runs_are_printed.Goals as goal

pub returns : goal.returns
returns g c = λ bytes around functions first more short sound surrounds are opens runs.
    let machine = machine_of g.T.Processor.instructions g.T.Processor.fits g.T.Processor.MACHINE g.T.Processor.QUANTUM g.T.Processor.SHAPE
    g.T.Processor.GROWTH g.T.Target.begins in
    all_printed machine bytes sound (record { around = c.one_function.ensures.around; function = c.one_function.ensures.function })
    around functions surrounds are (first ∷ more)
    (c.walks_are_chains.ensures bytes around functions first more short sound surrounds are opens runs)

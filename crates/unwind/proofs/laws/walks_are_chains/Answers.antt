use Rattle.image_rules.specs.Machine.{machine_of}
use Rattle.image_rules.specs.Parts.{count_in}
use Rattle.unwind.specs.Looks.{image_of}
use Rattle.unwind.proofs.WalkLemmas.{all_walk}
use Rattle.unwind.proofs.laws.walks_are_chains.Goals as goal

pub returns : goal.returns
returns g c = λ bytes around functions first more short sound surrounds are opens runs.
    let machine = machine_of g.T.Processor.instructions g.T.Processor.fits g.T.Processor.MACHINE g.T.Processor.QUANTUM g.T.Processor.SHAPE
    g.T.Processor.GROWTH g.T.Target.begins in
    let listed = c.sound_in_model.ensures.functions bytes around functions short sound.readable surrounds are in
    let model = c.sound_in_model.ensures.sound bytes around functions short sound surrounds are in
    all_walk machine bytes around functions c.values_are_settled.ensures.places sound.readable.table are
    (c.listed_is_text.ensures.text around (count_in bytes) functions listed) model surrounds.text first more
    (c.runs_are_known.ensures (image_of machine bytes around functions) first more model opens runs)

use Rattle.image_model.specs.Listed.{text_of}
use Rattle.image_rules.specs.Machine.{machine_of}
use Rattle.image_rules.specs.Parts.{count_in}
use Rattle.image_rules.proofs.ModelLemmas.{are_functions, flow_sound}
use Rattle.image_rules.proofs.laws.sound_in_model.Goals as goal

pub returns-clause-functions : goal.returns-clause-functions
returns-clause-functions g c = λ bytes around functions short readable surrounds are.
    are_functions
    (machine_of g.T.Processor.instructions g.T.Processor.fits g.T.Processor.MACHINE g.T.Processor.QUANTUM g.T.Processor.SHAPE
    g.T.Processor.GROWTH g.T.Target.begins)
    g.met.T.Processor.lengths bytes readable.profile around surrounds functions short are

pub returns-clause-sound : goal.returns-clause-sound
returns-clause-sound g c = λ bytes around functions short sound surrounds are.
    let machine = machine_of g.T.Processor.instructions g.T.Processor.fits g.T.Processor.MACHINE g.T.Processor.QUANTUM g.T.Processor.SHAPE
    g.T.Processor.GROWTH g.T.Target.begins in
    let listed = are_functions machine g.met.T.Processor.lengths bytes sound.readable.profile around surrounds functions short are in
    c.image_is_sound.ensures
    (text_of g.T.Processor.instructions g.T.Processor.SHAPE g.T.Processor.GROWTH g.T.Target.begins around (count_in bytes) functions)
    (c.listed_is_text.ensures.text around (count_in bytes) functions listed)
    (c.listed_is_text.ensures.machine around (count_in bytes) functions listed)
    (flow_sound machine g.met.T.Processor.lengths bytes g.met.T.Processor.prefix_free c.values_are_settled.ensures.one around functions sound
    surrounds are)

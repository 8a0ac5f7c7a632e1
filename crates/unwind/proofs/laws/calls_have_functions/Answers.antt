use Rattle.image_rules.specs.Machine.{machine_of}
use Rattle.image_rules.specs.Parts.{count_in}
use Rattle.unwind.proofs.PlaceLemmas.{call_found_in}
use Rattle.unwind.proofs.laws.calls_have_functions.Goals as goal

pub returns : goal.returns
returns g c = λ bytes around functions past at short sound surrounds are found.
    let machine = machine_of g.T.Processor.instructions g.T.Processor.fits g.T.Processor.MACHINE g.T.Processor.QUANTUM g.T.Processor.SHAPE
    g.T.Processor.GROWTH g.T.Target.begins in
    let listed = c.sound_in_model.ensures.functions bytes around functions short sound.readable surrounds are in
    call_found_in machine bytes around functions c.values_are_settled.ensures.places sound.readable.table are
    (c.listed_is_text.ensures.text around (count_in bytes) functions listed) past at found

use Rattle.image_model.proofs.SampleLemmas.{machine_is, sound, text_is}
use Rattle.image_model.proofs.laws.can_hold.Goals as goal

pub returns-clause-text : goal.returns-clause-text
returns-clause-text c = text_is

pub returns-clause-machine : goal.returns-clause-machine
returns-clause-machine c = machine_is

pub returns-clause-flow : goal.returns-clause-flow
returns-clause-flow c = sound

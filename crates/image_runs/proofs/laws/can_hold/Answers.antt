use Rattle.image_model.proofs.SampleLemmas.{machine_is, sound, text_is}
use Rattle.image_model.proofs.TextLemmas.{joined_sound}
use Rattle.image_model.specs.Sample.{calling}
use Rattle.image_runs.proofs.SampleLemmas.{opens, runs}
use Rattle.image_runs.proofs.laws.can_hold.Goals as goal

pub returns-clause-sound : goal.returns-clause-sound
returns-clause-sound c = joined_sound calling text_is machine_is sound

pub returns-clause-opens : goal.returns-clause-opens
returns-clause-opens c = opens

pub returns-clause-runs : goal.returns-clause-runs
returns-clause-runs c = runs

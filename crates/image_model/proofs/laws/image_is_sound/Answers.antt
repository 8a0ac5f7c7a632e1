use Rattle.image_model.proofs.TextLemmas.{joined_sound}
use Rattle.image_model.proofs.laws.image_is_sound.Goals as goal

pub returns : goal.returns
returns c = λ text is machine sound. joined_sound text is machine sound

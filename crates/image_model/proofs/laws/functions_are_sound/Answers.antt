use Rattle.image_model.proofs.TextLemmas.{functions_sound}
use Rattle.image_model.proofs.laws.functions_are_sound.Goals as goal

pub returns : goal.returns
returns c = λ text i is machine one sound. functions_sound text is machine i one sound

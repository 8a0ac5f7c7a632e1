use Rattle.machine_effect.proofs.WitnessLemmas.{letters_tell}
use Rattle.machine_effect.proofs.laws.letters_tell_flags.Goals as goal

pub returns : goal.returns
returns c = letters_tell

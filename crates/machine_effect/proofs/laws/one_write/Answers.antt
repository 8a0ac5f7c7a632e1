use Rattle.machine_effect.proofs.StepLemmas.{writes_value}
use Rattle.machine_effect.proofs.laws.one_write.Goals as goal

pub returns : goal.returns
returns c = writes_value

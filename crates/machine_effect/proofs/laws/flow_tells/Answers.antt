use Rattle.machine_effect.proofs.StateLemmas.{flow_tells}
use Rattle.machine_effect.proofs.laws.flow_tells.Goals as goal

pub returns : goal.returns
returns c = flow_tells

use Rattle.machine_effect.proofs.StateLemmas.{state_stays}
use Rattle.machine_effect.proofs.laws.keeps_widths.Goals as goal

pub returns : goal.returns
returns c = state_stays

use Rattle.machine_effect.proofs.StepLemmas.{links}
use Rattle.machine_effect.proofs.laws.call_links.Goals as goal

pub returns : goal.returns
returns c = links

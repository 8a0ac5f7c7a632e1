use Rattle.amd64_table.proofs.StepLemmas.{means}
use Rattle.amd64_table.proofs.laws.means_its_text.Goals as goal

pub returns : goal.returns
returns c = means

use Rattle.image_runs.proofs.RunLemmas.{opens_known, runs_known}
use Rattle.image_runs.proofs.laws.runs_are_known.Goals as goal

pub returns : goal.returns
returns c = λ img first more sound opens runs. runs_known img sound first more (opens_known img sound first opens) runs

use Rattle.image_runs.proofs.RunLemmas.{opens_known, step_known}
use Rattle.image_runs.proofs.laws.steps_keep_known.Goals as goal

pub returns-clause-opens : goal.returns-clause-opens
returns-clause-opens c = λ img first sound opens. opens_known img sound first opens

pub returns-clause-step : goal.returns-clause-step
returns-clause-step c = λ img before after step sound known kept. step_known img sound before after known step kept

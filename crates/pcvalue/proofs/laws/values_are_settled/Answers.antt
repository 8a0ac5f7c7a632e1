use Rattle.pcvalue.proofs.CoverLemmas.{answers_places}
use Rattle.pcvalue.proofs.laws.values_are_settled.Goals as goal

pub returns-clause-places : goal.returns-clause-places
returns-clause-places c = answers_places

use Rattle.amd64_table.proofs.BoundLemmas.{bounded}
use Rattle.amd64_table.proofs.NextLemmas.{nexts, only_goes, links}
use Rattle.amd64_table.proofs.laws.bounds.Goals as goal

pub returns-clause-next : goal.returns-clause-next
returns-clause-next c = nexts

pub returns-clause-only_goes : goal.returns-clause-only_goes
returns-clause-only_goes c = only_goes

pub returns-clause-links : goal.returns-clause-links
returns-clause-links c = links

pub returns-clause-bounded : goal.returns-clause-bounded
returns-clause-bounded c = bounded

use Rattle.amd64_table.proofs.LongLemmas.{clears}
use Rattle.amd64_table.proofs.laws.clears_upper.Goals as goal

pub returns : goal.returns
returns c = clears

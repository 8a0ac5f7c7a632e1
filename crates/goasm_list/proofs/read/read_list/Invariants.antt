use Rattle.std.proofs.Common.{length}
use Rattle.goasm_list.proofs.ListLemmas.{Reached}
use Rattle.goasm_list.proofs.read.read_list.Given as goal

abbrev pub invariant-loop-rest : goal.invariant-loop-rest
invariant-loop-rest l = Reached l.bytes l.number l.rest l.reader

abbrev pub decreases-loop-rest : goal.decreases-loop-rest
decreases-loop-rest l = length l.rest

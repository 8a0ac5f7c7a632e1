use Rattle.std.proofs.Common.{vec_len}
use Rattle.branch_size.proofs.FirstLemmas.{FirstsSoFar}
use Rattle.branch_size.proofs.first_lines.firsts.Given as goal

abbrev pub invariant-loop-line : goal.invariant-loop-line
invariant-loop-line g l = FirstsSoFar l.code l.firsts.items (vec_len l.firsts) l.line

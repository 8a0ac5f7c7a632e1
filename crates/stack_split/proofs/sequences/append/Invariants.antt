use Rattle.std.proofs.Common.{◌≡◌, ◌++◌, take}
use Rattle.stack_split.proofs.sequences.append.Given as goal

abbrev pub invariant-loop-index : goal.invariant-loop-index
invariant-loop-index g l = l.code ≡ l.initial.code ++ take l.index l.more

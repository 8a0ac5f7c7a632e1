use Rattle.std.proofs.Common.{◌≡◌, ◌++◌, map, take}
use Rattle.stack_split.specs.Opening.{plain}
use Rattle.stack_split.proofs.sequences.append_plain.Given as goal

abbrev pub invariant-loop-index : goal.invariant-loop-index
invariant-loop-index g l = l.code ≡ l.initial.code ++ map plain (take l.index l.more)

use Rattle.std.proofs.Common.{◌≡◌, map}
use Rattle.std.specs.List.{range_with_len}
use Rattle.pclntab.specs.Func.{entry_of}
use Rattle.image_check.proofs.surroundings.entries.Given as goal

abbrev pub invariant-loop-index : goal.invariant-loop-index
invariant-loop-index l = l.found.items ≡ map (entry_of l.table) (range_with_len 0 l.index)

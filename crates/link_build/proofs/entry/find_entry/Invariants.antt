use Rattle.std.proofs.Common.{map}
use Rattle.link_build.specs.Functions.{seen}
use Rattle.link_build.proofs.EntryLemmas.{NoneBefore}
use Rattle.link_build.proofs.entry.find_entry.Given as goal

abbrev pub invariant-loop-number : goal.invariant-loop-number
invariant-loop-number g l = NoneBefore l.meaning (map seen l.funcs) l.number

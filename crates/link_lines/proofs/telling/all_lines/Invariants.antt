use Rattle.std.proofs.Common.{map}
use Rattle.link_build.specs.Functions.{seen}
use Rattle.link_lines.proofs.AllLemmas.{AreToldFirst}
use Rattle.link_lines.proofs.telling.all_lines.Given as goal

abbrev pub invariant-loop-number : goal.invariant-loop-number
invariant-loop-number g l = AreToldFirst (map seen l.funcs) l.entries l.number l.all.items

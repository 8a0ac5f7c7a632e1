use Rattle.std.proofs.Common.{◌≡◌, [], drop}
use Rattle.asm_directive.specs.LineNames.{distinct_behind}
use Rattle.asm_directive.proofs.marks.distinct.Given as goal

abbrev pub invariant-loop-name : goal.invariant-loop-name
invariant-loop-name l = distinct_behind l.names (drop l.name-index l.all) ≡ distinct_behind [] l.all

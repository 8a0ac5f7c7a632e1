use Rattle.std.proofs.Common.{◌≡◌, map, take}
use Rattle.link_names.specs.Definitions.{each}
use Rattle.link_build.specs.Functions as spec
use Rattle.link_build.proofs.func.functions_of.Given as goal

abbrev pub invariant-loop-number : goal.invariant-loop-number
invariant-loop-number g l = map spec.seen l.funcs.items ≡ each spec.functions_of (take l.number l.code)

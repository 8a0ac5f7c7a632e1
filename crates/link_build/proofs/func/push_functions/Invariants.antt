use Rattle.std.proofs.Common.{◌≡◌, ◌++◌, map, take}
use Rattle.link_build.specs.Functions.{seen, seen_in}
use Rattle.link_build.proofs.func.push_functions.Given as goal

abbrev pub invariant-loop-part : goal.invariant-loop-part
invariant-loop-part g l =
    map seen l.funcs.items ≡ map seen l.initial.funcs.items ++ map (seen_in l.number l.code.unit.now) (take l.part-index l.code.parts.items)

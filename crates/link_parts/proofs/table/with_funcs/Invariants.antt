use Rattle.std.proofs.Common.{◌≡◌, ◌+◌, ◌^◌, length, take, min}
use Rattle.std.specs.Prelude.{sum_by}
use Rattle.link_parts.proofs.table.with_funcs.Given as goal

abbrev pub invariant-loop-func : goal.invariant-loop-func
invariant-loop-func l = l.total ≡ min (l.size + sum_by (λ func. length func.name + 1) (take l.func-index l.funcs)) (2 ^ 32)

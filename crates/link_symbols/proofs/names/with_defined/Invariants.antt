use Rattle.std.proofs.Common.{◌≡◌, ◌+◌, ◌^◌, length, take, min}
use Rattle.std.specs.Prelude.{sum_by}
use Rattle.link_symbols.proofs.names.with_defined.Given as goal

abbrev pub invariant-loop-one : goal.invariant-loop-one
invariant-loop-one l = l.total ≡ min (l.size + sum_by (λ one. length one.name.now + 1) (take l.one-index l.defined)) (2 ^ 32)

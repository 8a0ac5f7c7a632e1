use Rattle.std.proofs.Common.{◌≡◌, ◌+◌, ◌^◌, length, take, min}
use Rattle.std.specs.Prelude.{sum_by}
use Rattle.link_symbols.proofs.names.with_outside.Given as goal

abbrev pub invariant-loop-name : goal.invariant-loop-name
invariant-loop-name l = l.total ≡ min (l.size + sum_by (λ one. length one.0 + 1) (take l.name-index l.outside)) (2 ^ 32)

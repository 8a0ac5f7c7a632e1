use Rattle.std.proofs.Common.{◌≡◌, ◌++◌}
use Rattle.std.specs.Prelude.{replicate}
use Rattle.link_code.proofs.bytes.push_byte.Given as goal

abbrev pub invariant-loop-turn : goal.invariant-loop-turn
invariant-loop-turn l = l.text.items ≡ l.fn.text.items ++ replicate l._turn l.byte

use Rattle.std.proofs.Common.{◌≡◌, ◌++◌, drop}
use Rattle.asm_directive.specs.Texts.{values_from}
use Rattle.asm_directive.proofs.texts.values.Given as goal

abbrev pub invariant-loop-at : goal.invariant-loop-at
invariant-loop-at l = l.values.items ++ values_from l.skip (drop l.at l.bytes) ≡ values_from 0 l.bytes

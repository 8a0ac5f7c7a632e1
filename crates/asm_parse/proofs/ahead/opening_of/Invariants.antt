use Rattle.std.proofs.Common.{◌≡◌, length}
use Rattle.asm_parse.specs.Ahead.{after_labels}
use Rattle.asm_parse.proofs.ahead.opening_of.Given as goal

abbrev pub invariant-loop : goal.invariant-loop
invariant-loop l = after_labels l.reader.rest ≡ after_labels l.tokens

abbrev pub decreases-loop : goal.decreases-loop
decreases-loop l = length l.reader.rest

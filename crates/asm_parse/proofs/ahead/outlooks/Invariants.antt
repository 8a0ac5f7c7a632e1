use Rattle.std.proofs.Common.{◌≡◌, ◌≤◌, length, drop}
use Rattle.asm_parse.specs.Ahead.{seen, ahead_of, outlooks_back}
use Rattle.asm_parse.proofs.ahead.outlooks.Given as goal

abbrev pub invariant-loop-at : goal.invariant-loop-at
invariant-loop-at l = record {
  within : l.at ≤ length l.statements;
  all : l.all.items ≡ outlooks_back (drop l.at (seen l.statements));
  behind : l.behind ≡ ahead_of (drop l.at (seen l.statements));
}

abbrev pub decreases-loop-at : goal.decreases-loop-at
decreases-loop-at l = l.at

use Rattle.std.proofs.Common.{◌≡◌, ◌≤◌, ◌-◌, ◌++◌, drop, length}
use Rattle.asm_parse.specs.Ahead.{seen}
use Rattle.asm_parse.specs.Parse.{statements_of}
use Rattle.asm_parse.proofs.unread.statements_in.Given as goal

abbrev pub invariant-statements : goal.invariant-statements
invariant-statements l = record {
  within : l.from ≤ length l.tokens;
  cut : seen l.all.items ++ statements_of (drop l.from l.tokens) ≡ statements_of l.tokens;
}

abbrev pub decreases-statements : goal.decreases-statements
decreases-statements l = length l.tokens - l.from

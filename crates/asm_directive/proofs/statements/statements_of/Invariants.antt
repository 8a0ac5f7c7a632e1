use Rattle.std.proofs.Common.{◌≡◌, ◌≤◌, ◌-◌, ◌++◌, map, drop, length}
use Rattle.std.specs.List.{flat_map}
use Rattle.asm_directive.specs.Tokens.{is_newline}
use Rattle.asm_directive.specs.Statements.{split_inclusive, statements_on, statements_of}
use Rattle.asm_directive.specs.Views.{statement_of}
use Rattle.asm_directive.proofs.statements.statements_of.Given as goal

abbrev pub invariant-lines : goal.invariant-lines
invariant-lines l = record {
  within : l.at ≤ length l.tokens;
  lines : map statement_of l.statements.items ++ flat_map statements_on (split_inclusive is_newline (drop l.at l.tokens)) ≡ statements_of l.tokens;
}

abbrev pub decreases-lines : goal.decreases-lines
decreases-lines l = length l.tokens - l.at

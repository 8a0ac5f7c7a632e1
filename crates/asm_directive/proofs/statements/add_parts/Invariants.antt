use Rattle.std.proofs.Common.{◌≡◌, ◌≤◌, ◌-◌, ◌++◌, map, drop, length}
use Rattle.asm_directive.specs.Tokens.{is_end}
use Rattle.asm_directive.specs.Statements.{split_inclusive, plain}
use Rattle.asm_directive.specs.Views.{statement_of}
use Rattle.asm_directive.proofs.statements.add_parts.Given as goal

abbrev pub invariant-parts : goal.invariant-parts
invariant-parts l = record {
  within : l.at ≤ length l.line;
  parts : map statement_of l.statements.items ++ map plain (split_inclusive is_end (drop l.at l.line))
      ≡ map statement_of l.initial.statements.items ++ map plain (split_inclusive is_end l.line);
}

abbrev pub decreases-parts : goal.decreases-parts
decreases-parts l = length l.line - l.at

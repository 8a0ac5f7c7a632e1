use Rattle.std.proofs.Common.{◌≡◌, ◌++◌, drop}
use Rattle.asm_macro.specs.Uses.{substitution}
use Rattle.asm_directive.specs.Views.{parameters_if}
use Rattle.asm_macro.proofs.uses.substitution.Given as goal

abbrev pub invariant-loop-token : goal.invariant-loop-token
invariant-loop-token l =
    l.made.items ++ substitution l.pos l.levels (parameters_if l.definition.parameters) l.lists (drop l.token-index l.body)
    ≡ substitution l.pos l.levels (parameters_if l.definition.parameters) l.lists l.body

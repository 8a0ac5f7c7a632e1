use Rattle.std.proofs.Common.{◌≡◌, ◌++◌, map, drop}
use Rattle.asm_macro.specs.Uses.{placed_at}
use Rattle.asm_macro.proofs.uses.add_argument.Given as goal

abbrev pub invariant-loop-placed : goal.invariant-loop-placed
invariant-loop-placed l =
    l.substitution.items ++ map (λ placed. placed_at l.pos l.levels placed.token) (drop l.placed-index l.argument)
    ≡ l.initial.substitution.items ++ map (λ placed. placed_at l.pos l.levels placed.token) l.argument

use Rattle.std.proofs.Common.{◌≡◌, ◌++◌, drop}
use Rattle.asm_macro.specs.Files.{placed_in}
use Rattle.asm_macro.proofs.files.placed_in.Given as goal

abbrev pub invariant-loop-token : goal.invariant-loop-token
invariant-loop-token l =
    l.placed.items ++ placed_in l.mapping l.levels (drop l.token-index l.tokens) ≡ placed_in l.mapping l.levels l.tokens

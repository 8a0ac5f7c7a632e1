use Rattle.std.proofs.Common.{◌≡◌, map, drop}
use Rattle.asm_macro.specs.Builds.{greatest}
use Rattle.asm_macro.proofs.builds.greatest_with.Given as goal

abbrev pub invariant-loop-tokens : goal.invariant-loop-tokens
invariant-loop-tokens l =
    greatest l.greatest (map (λ file. file.1.file) (drop l.tokens-index l.files)) ≡ greatest l.most (map (λ file. file.1.file) l.files)

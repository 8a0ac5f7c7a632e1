use Rattle.std.proofs.Common.{◌≡◌, map, drop}
use Rattle.asm_macro.specs.Builds.{greatest}
use Rattle.asm_macro.proofs.builds.greatest_of.Given as goal

abbrev pub invariant-loop-tokens : goal.invariant-loop-tokens
invariant-loop-tokens l =
    greatest l.greatest (map (λ tokens. tokens.file) (drop l.tokens-index l.sources)) ≡ greatest 0 (map (λ tokens. tokens.file) l.sources)

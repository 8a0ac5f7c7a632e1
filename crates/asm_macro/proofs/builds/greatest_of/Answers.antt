use Rattle.std.proofs.Common.{map, sym, ap, ◌∙◌}
use Rattle.std.proofs.lemmas.List.{drop_all}
use Rattle.asm_macro.specs.Builds.{greatest, greatest_file}
use Rattle.asm_macro.proofs.BuildLemmas.{greatest_all}
use Rattle.asm_macro.proofs.builds.greatest_of.Goals as goal

pub returns : goal.returns
unfolding greatest_file
returns c =
    greatest_all 0 c.loop-tokens.greatest c.greatest_with.result _
    (map (λ tokens. tokens.file) c.args.sources.now) (map (λ include. include.1.file) c.args.includes.now) (map (λ define. define.1.file) c.args.defines.now)
    (ap (λ rest. greatest c.loop-tokens.greatest (map (λ tokens. tokens.file) rest)) (sym (drop_all c.loop-tokens.tokens-index c.args.sources.now c.loop-tokens-test.false)) ∙ c.loop-tokens.invariant)
    c.greatest_with.ensures c.greatest_with-2.ensures

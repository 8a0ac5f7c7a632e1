use Rattle.std.proofs.Common.{◌≡◌, drop}
use Rattle.asm_macro.specs.Builds.{expand_sources}
use Rattle.asm_macro.specs.Views.{context_of, macros_in}
use Rattle.asm_macro.proofs.BuildLemmas.{with_front}
use Rattle.asm_macro.proofs.builds.expand_sources.Given as goal

abbrev pub invariant-loop-tokens : goal.invariant-loop-tokens
invariant-loop-tokens l =
    with_front l.all.items (expand_sources l.limits.nesting (context_of l.environment) (macros_in l.given) l.room l.uses (drop l.tokens-index l.sources))
    ≡ expand_sources l.limits.nesting (context_of l.environment) (macros_in l.given) l.limits.tokens l.limits.uses l.sources

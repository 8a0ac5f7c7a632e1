use Rattle.std.proofs.Common.{◌≡◌, ◌++◌, drop}
use Rattle.std.specs.List.{flat_map}
use Rattle.asm_directive.specs.LineNames.{names_in}
use Rattle.asm_directive.specs.LineNames.{included_tokens}
use Rattle.asm_directive.proofs.marks.all_names.Given as goal

abbrev pub invariant-loop-tokens : goal.invariant-loop-tokens
invariant-loop-tokens l =
    l.names.items ++ flat_map (λ tokens. names_in tokens.list) (drop l.tokens-index l.sources ++ included_tokens l.includes)
    ≡ flat_map (λ tokens. names_in tokens.list) (l.sources ++ included_tokens l.includes)

abbrev pub invariant-loop-tokens-2 : goal.invariant-loop-tokens-2
invariant-loop-tokens-2 l =
    l.names.items ++ flat_map (λ tokens. names_in tokens.list) (included_tokens (drop l.tokens-index l.includes))
    ≡ flat_map (λ tokens. names_in tokens.list) (l.sources ++ included_tokens l.includes)

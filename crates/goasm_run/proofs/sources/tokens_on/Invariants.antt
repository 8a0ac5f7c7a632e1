use Rattle.std.proofs.Common.{◌≡◌, ◌++◌, drop, map}
use Rattle.goasm_run.specs.Sources as spec
use Rattle.goasm_run.proofs.sources.tokens_on.Given as goal

abbrev pub invariant-loop-token : goal.invariant-loop-token
invariant-loop-token l =
    l.list.items ++ map (spec.token_on l.line) (drop l.token-index l.token-items) ≡ map (spec.token_on l.line) l.tokens.list

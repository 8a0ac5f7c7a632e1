use Rattle.std.proofs.Common.{◌≡◌, ◌++◌, drop}
use Rattle.goasm_run.specs.Expand as spec
use Rattle.goasm_run.proofs.commands.expand.text.Given as goal

abbrev pub invariant-loop-tokens : goal.invariant-loop-tokens
invariant-loop-tokens l =
    l.text ++ spec.expanded_text l.files (drop l.tokens-index l.all) ≡ spec.expanded_text l.files l.all

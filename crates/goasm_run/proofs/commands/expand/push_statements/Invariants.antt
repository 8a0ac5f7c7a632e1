use Rattle.std.proofs.Common.{◌≡◌, ◌++◌, drop}
use Rattle.goasm_run.specs.Expand.{list_text}
use Rattle.goasm_run.proofs.StatementLemmas.{written}
use Rattle.goasm_run.proofs.commands.expand.push_statements.Given as goal

abbrev pub invariant-loop-token : goal.invariant-loop-token
invariant-loop-token l =
    l.text ++ written l.files l.begun (drop l.token-index l.list) ≡ l.fn.text ++ list_text l.files l.list

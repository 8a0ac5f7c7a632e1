use Rattle.std.proofs.Common.{length}
use Rattle.goasm_run.proofs.SourceLemmas.{value_lexed}
use Rattle.goasm_run.proofs.sources.value_tokens.Goals as goal

pub returns-in_ok-tokens_on-in-Ok-clause-lexed : goal.returns-in_ok-tokens_on-in-Ok-clause-lexed
returns-in_ok-tokens_on-in-Ok-clause-lexed c =
    value_lexed c.args.part.now.line c.args.part.now.file (length c.args.names.now) c.as_slice.result.now
    c.in-Ok.tokens c.in_ok-tokens_on-in-Ok.field-0 c.in_ok-tokens_on-in-Ok.ensures
    c.in-Ok.ensures.tokens c.in-Ok.ensures.formed c.in-Ok.ensures.places c.requires.line c.requires.named

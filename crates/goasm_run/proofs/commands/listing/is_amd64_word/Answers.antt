use Rattle.goasm_run.proofs.WordLemmas.{amd64_word}
use Rattle.goasm_run.proofs.commands.listing.is_amd64_word.Goals as goal

pub returns : goal.returns
returns c = amd64_word c.args.name.now c.is_word.result c.is_word.ensures

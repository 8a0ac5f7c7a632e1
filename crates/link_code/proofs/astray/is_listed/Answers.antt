use Rattle.std.proofs.Common.{◌∙◌}
use Rattle.flow_rules.proofs.EntryLemmas.{searched_entries}
use Rattle.link_code.proofs.astray.is_listed.Goals as goal

pub returns : goal.returns
returns c =
    c.is_ok.ensures.value ∙ searched_entries c.args.addresses.now c.args.address c.binary_search.result c.binary_search.ensures.position
    c.requires

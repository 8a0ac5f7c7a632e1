use Rattle.std.proofs.Common.{◌∙◌}
use Rattle.link_names.proofs.EntryLemmas.{lookup_seen}
use Rattle.link_names.proofs.names.Names.first.Goals as goal

pub returns : goal.returns
returns c =
    rw (← c.self.view_is)
    (c.copied.ensures ∙ c.get.ensures.value ∙ lookup_seen (c.args.name.now, c.args.unit) c.self.inside.entries.entries)

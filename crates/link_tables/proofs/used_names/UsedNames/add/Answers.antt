use Rattle.link_tables.proofs.NameLemmas.{seen_place, seen_with}
use Rattle.link_tables.proofs.used_names.UsedNames.add.Goals as goal

pub returns-clause-names : goal.returns-clause-names
returns-clause-names c = rw (← c.self.view_is, c.in_ok-added.ensures.keys) (seen_with c.self.inside.names.keys c.args.name)

pub returns-clause-place : goal.returns-clause-place
returns-clause-place c = rw (← c.self.view_is, c.in_ok-added.ensures.index) (seen_place c.self.inside.names.keys c.args.name)

use Rattle.std.proofs.Common.{◌≡◌, None}
use Rattle.link_names.specs.Adding.{first_of}
use Rattle.link_names.proofs.EntryLemmas.{inserted_seen}
use Rattle.link_names.proofs.names.Names.add.Goals as goal

pub returns-in_ok-insert-in-None-clause-adds : goal.returns-in_ok-insert-in-None-clause-adds
returns-in_ok-insert-in-None-clause-adds c =
    let absent : None ≡ first_of c.args.self.now (c.args.name.now, c.args.unit) = cc in
    let there = rw (← c.self.view_is) at absent in
    rw (← c.self.view_is, c.in_ok-insert-in-None.ensures.entries)
    (inserted_seen c.self.inside.entries.entries (c.args.name, c.args.unit) c.args.definition there)

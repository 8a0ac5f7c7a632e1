use Rattle.std.proofs.Common.{ap, ◌∙◌}
use Rattle.std.specs.Prelude.{slice_get}
use Rattle.link_tables.proofs.NameLemmas.{name_turn}
use Rattle.link_tables.proofs.used_names.UsedNames.list.Goals as goal

pub loop-name-preserved : goal.loop-name-preserved
loop-name-preserved c =
    let found = c.in-Some.ensures.key ∙ ap (slice_get c.self.inside.names.keys) c.len.ensures in
    let turn = name_turn c.self.inside.names.keys _ _ c.in-Some.name.now c.loop-name.list.items c.push.new.self.items _ found c.in_ok-push.ensures.len c.loop-name.invariant.items c.in_ok-push.ensures.items c.in_ok-from_slice.ensures in
    record { within = turn.0; items = turn.1 }

use Rattle.std.proofs.Common.{sym, ◌∙◌}
use Rattle.flow_rules.proofs.FollowLemmas.{breaks_first}
use Rattle.flow_rules.proofs.rules.breaks_f1.Goals as goal

pub returns : goal.returns
returns g c =
    c.is_some.ensures ∙ sym (breaks_first (g.L.Listing.function c.args.list.now) c.args.here.now.number c.differing.result
    c.differing.ensures)

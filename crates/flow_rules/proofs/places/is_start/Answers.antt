use Rattle.std.proofs.Common.{◌∙◌}
use Rattle.flow_rules.proofs.FollowLemmas.{started}
use Rattle.flow_rules.proofs.places.is_start.Goals as goal

pub returns : goal.returns
returns g c =
    c.is_some.ensures ∙ started (g.L.Listing.function c.args.list.now) c.args.address c.number_at.result c.number_at.ensures.inside
    c.number_at.ensures.there c.number_at.ensures.none

use Rattle.flow_rules.proofs.FollowLemmas.{none_unbroken}
use Rattle.flow_rules.proofs.breach.depths.Goals as goal

pub returns-in-None : goal.returns-in-None
returns-in-None g c =
    absurd (none_unbroken (g.L.Listing.function c.args.list.now) c.args.here.now.number c.args.rule c.if-rule-ne1.false
    c.requires.broken c.in-None.ensures)

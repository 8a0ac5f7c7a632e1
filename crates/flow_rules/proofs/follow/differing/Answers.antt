use Rattle.std.proofs.Common.{pos, suc, ◌&&◌, ◌==◌, not}
use Rattle.std.specs.Ordering.{int_eq}
use Rattle.asm_target.specs.FlowFunction.{is_goal, jump_goal}
use Rattle.asm_target.specs.FlowRules.{can_pass}
use Rattle.flow_rules.proofs.FollowLemmas.{follows_first}
use Rattle.flow_rules.proofs.follow.differing.Goals as goal

pub returns : goal.returns
returns g c =
    let f = g.L.Listing.function c.args.list.now in
    let here = c.args.here.now in
    follows_first f here.number here.flow here.outgoing c.lower.result c.requires.flow c.requires.outgoing
    (c.lower.ensures (λ j. (can_pass here.flow.next && (suc here.number == j)) && not (int_eq here.outgoing (pos (f.depth j))))
    (λ j. is_goal (jump_goal here.flow.next) (f.at j) && not (int_eq here.outgoing (pos (f.depth j)))) f.count c.behind.ensures c.landing.ensures)

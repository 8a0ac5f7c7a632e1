use Rattle.std.proofs.Common.{◌≡◌, sym, ◌∙◌, ap, true, false, is_some}
use Rattle.asm_target.proofs.DepthLemmas.{by_move, kept}
use Rattle.asm_target.specs.DepthChange.{moved_by}
use Rattle.asm_target.specs.FlowFunction.{depth_view}
use Rattle.flow_rules.proofs.ChangeLemmas.{changed_by_role}
use Rattle.flow_rules.proofs.here.change.Goals as goal

pub returns-then-is_some-clause-exact : goal.returns-then-is_some-clause-exact
returns-then-is_some-clause-exact g c =
    let f = g.L.Listing.function c.args.list.now in
    let linked : is_some f.link ≡ true = ap is_some (sym c.link.ensures) ∙ sym c.is_some.ensures ∙ c.if-is_some.true in
    kept c.role_adds.result c.role_adds.type_inv ∙ c.role_adds.ensures ∙ sym (changed_by_role f (g.met.L.Listing.lawful c.args.list.now) linked c.args.number)

pub returns-else-is_some-clause-exact : goal.returns-else-is_some-clause-exact
returns-else-is_some-clause-exact g c =
    let f = g.L.Listing.function c.args.list.now in
    let unlinked : is_some f.link ≡ false = ap is_some (sym c.link.ensures) ∙ sym c.is_some.ensures ∙ c.if-is_some.false in
    kept c.moved_by.result c.moved_by.type_inv ∙ c.moved_by.ensures.exact ∙ ap moved_by c.flow.ensures.exact ∙ sym (by_move (depth_view f) c.args.number unlinked)

use Rattle.std.proofs.Common.{◌≡◌, Some, sym, ◌∙◌, ap}
use Rattle.asm_target.specs.FlowFunction.{jump_goal, next_at}
use Rattle.flow_rules.proofs.HitLemmas.{broken}
use Rattle.flow_rules.proofs.hits.hit_by.Goals as goal

pub returns-in-Some-number_at-clause-hit : goal.returns-in-Some-number_at-clause-hit
returns-in-Some-number_at-clause-hit g c = λ less.
    let f = g.L.Listing.function c.args.list.now in
    let goes : jump_goal (next_at f c.args.number) ≡ Some c.in-Some.goal =
    ap (λ flow. jump_goal flow.next) (sym c.flow.ensures.exact) ∙ sym c.in-Some.ensures in
    broken f c.args.number c.in-Some.goal c.in-Some-number_at.landing c.begun_before.result c.requires.inside goes
    c.in-Some-number_at.ensures.there (c.begun_before.ensures.before less) (c.begun_before.ensures.over less)

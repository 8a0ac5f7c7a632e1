use Rattle.std.proofs.Common.{◌≡◌, ℕ, subst, arith}
use Rattle.flow_rules.proofs.HitLemmas.{Spared, unhit}
use Rattle.flow_rules.proofs.hits.first_hit.Goals as goal

pub returns-clause-unhit : goal.returns-clause-unhit
returns-clause-unhit g c =
    let f = g.L.Listing.function c.args.list.now in
    let all : c.loop-number.number ≡ f.count = omega arith in
    unhit f c.loop-number.first (subst (λ (n : ℕ). Spared f c.loop-number.first n) all c.loop-number.invariant)

use Rattle.std.proofs.Common.{◌≡◌, ℕ, false, sym, subst, arith}
use Rattle.asm_target.specs.FlowRules.{breaks}
use Rattle.flow_rules.proofs.FollowLemmas.{no_rule}
use Rattle.flow_rules.proofs.breach.breach_at.Goals as goal

pub loop-rule-init : goal.loop-rule-init
loop-rule-init g c = λ rule less.
    let f = g.L.Listing.function c.args.list.now in
    let none : rule ≡ 0 = omega arith in
    subst (λ (n : ℕ). breaks f c.args.here.now.number n ≡ false) (sym none) (no_rule f c.args.here.now.number)

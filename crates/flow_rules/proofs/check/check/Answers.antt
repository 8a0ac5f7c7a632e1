use Rattle.std.proofs.Common.{◌≡◌, ℕ, false, add-one, rules, arith, below_more, subst, refl}
use Rattle.asm_target.specs.FlowRules.{breaks}
use Rattle.flow_rules.proofs.RoleLemmas.{leads_first, leads_on}
use Rattle.flow_rules.proofs.check.check.Goals as goal

pub loop-number-init : goal.loop-number-init
loop-number-init g c = record {
  leads = leads_first (g.L.Listing.function c.args.list.now) c.default-before.result (search rules);
  sound = λ k rule less most. absurd (omega arith);
}

pub loop-number-preserved : goal.loop-number-preserved
loop-number-preserved g c =
    let f = g.L.Listing.function c.args.list.now in
    record {
      leads = rw add-one (leads_on f c.loop-number.number c.role_at-role.result c.role_at-role.ensures);
      sound = λ k rule less most. below_more (λ j. breaks f j rule ≡ false) c.loop-number.number
          (λ j before. c.loop-number.invariant.sound j rule before most)
          (subst (λ (j : ℕ). breaks f j rule ≡ false) c.here_at.ensures.number (c.in_default.ensures.none refl rule most)) k less;
    }

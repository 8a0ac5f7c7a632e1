-- A function has at most one first breach, and with one it isn't sound.
use Rattle.std.proofs.Common.{◌≡◌, ℕ, ◌<◌, ◌≤◌, ◌==◌, true, false, pos, refl, sym, ◌∙◌, subst, arith, inl, inr}
use Rattle.std.proofs.lemmas.Bool.{cases_lt, cases_order}
use Rattle.std.proofs.lemmas.Bool.Decides.{nat_tests}
use Rattle.asm_target.specs.FlowFunction.{FlowFunction, outgoing}
use Rattle.asm_target.specs.FlowRules.{Breach, HasDepths, IsBreachAt, IsFirstBreach, IsFlowSound, breaks, differs}

above : (a b : ℕ) → b < a → (a == b) ≡ false
above a b less = grind (arith, nat_tests)

module _ (f : FlowFunction) where
  -- the rules have the numbers up to 9
  beyond : (k rule : ℕ) → 9 < rule → breaks f k rule ≡ false
  unfolding breaks
  beyond k rule more =
      rw (
        above rule 1 (omega arith),
        above rule 2 (omega arith),
        above rule 3 (omega arith),
        above rule 4 (omega arith),
        above rule 5 (omega arith),
        above rule 6 (omega arith),
        above rule 7 (omega arith),
        above rule 8 (omega arith),
        above rule 9 (omega arith),
      ) refl

  known : (k rule : ℕ) → breaks f k rule ≡ true → rule ≤ 9
  known k rule broken =
      elim (cases_lt 9 rule) as (λ _. rule ≤ 9) [
        | inl more ↦ absurd (cc (broken, beyond k rule more))
        | inr most ↦ most
      ]

  pub unsound : (breach : Breach) → IsFirstBreach f breach → ¬ IsFlowSound f
  unsound breach first sound =
      let broken = first.told.broken in
      cc (broken, sound first.position breach.rule first.inside (known first.position breach.rule broken))

  not_before : (one other : Breach) (a : IsFirstBreach f one) (b : IsFirstBreach f other) → ¬ (a.position < b.position)
  not_before one other a b less =
      cc (a.told.broken, b.before a.position one.rule less (known a.position one.rule a.told.broken))

  same_position : (one other : Breach) (a : IsFirstBreach f one) (b : IsFirstBreach f other) → a.position ≡ b.position
  same_position one other a b =
      elim (cases_order a.position b.position) as (λ _. a.position ≡ b.position) [
        | inl same ↦ same
        | inr (inl less) ↦ absurd (not_before one other a b less)
        | inr (inr more) ↦ absurd (not_before other one b a more)
      ]

  same_rule : (k : ℕ) (one other : Breach) → IsBreachAt f k one → IsBreachAt f k other → one.rule ≡ other.rule
  same_rule k one other a b =
      elim (cases_order one.rule other.rule) as (λ _. one.rule ≡ other.rule) [
        | inl same ↦ same
        | inr (inl less) ↦ absurd (cc (a.broken, b.lowest one.rule less))
        | inr (inr more) ↦ absurd (cc (b.broken, a.lowest other.rule more))
      ]

  -- the first instruction that follows with another depth is one
  same_follower : (k i j : ℕ) → differs f k i ≡ true → ((n : ℕ) → n < i → differs f k n ≡ false)
      → differs f k j ≡ true → ((n : ℕ) → n < j → differs f k n ≡ false) → i ≡ j
  same_follower k i j i_differs i_first j_differs j_first =
      elim (cases_order i j) as (λ _. i ≡ j) [
        | inl same ↦ same
        | inr (inl less) ↦ absurd (cc (i_differs, j_first i less))
        | inr (inr more) ↦ absurd (cc (j_differs, i_first j more))
      ]

  same_others : (k : ℕ) (one other : Breach) → HasDepths f k one → HasDepths f k other → one.rule ≡ other.rule
      → ¬ (one.rule ≡ 1) → one.depths ≡ other.depths
  same_others k one other a b same unlike = a.others unlike ∙ sym (b.others (λ is. unlike (same ∙ is)))

  same_depths : (k : ℕ) (one other : Breach) → HasDepths f k one → HasDepths f k other → one.rule ≡ other.rule
      → one.depths ≡ other.depths
  same_depths k one other a b same =
      elim (cases_order one.rule 1) as (λ _. one.depths ≡ other.depths) [
        | inl first ↦
            (let p = a.pair first in
            let q = b.pair (sym same ∙ first) in
            let j : p.0 ≡ q.0 = same_follower k p.0 q.0 p.1 p.2 q.1 q.2 in
            let between : (outgoing f k, pos (f.depth p.0)) ≡ (outgoing f k, pos (f.depth q.0)) = cc j in
            p.3 ∙ between ∙ sym q.3)
        | inr (inl less) ↦ same_others k one other a b same (λ is. omega arith)
        | inr (inr more) ↦ same_others k one other a b same (λ is. omega arith)
      ]

  pub same_breach : (one other : Breach) → IsFirstBreach f one → IsFirstBreach f other → one ≡ other
  same_breach one other a b =
      let place = same_position one other a b in
      let told : IsBreachAt f a.position other = subst (λ (k : ℕ). IsBreachAt f k other) (sym place) b.told in
      let rule = same_rule a.position one other a.told told in
      let depths = same_depths a.position one other a.told.depths told.depths rule in
      let address : one.address ≡ other.address = a.told.place ∙ sym told.place in
      let same : record { rule = one.rule; address = one.address; depths = one.depths }
      ≡ record { rule = other.rule; address = other.address; depths = other.depths } = cc (rule, address, depths) in
      same

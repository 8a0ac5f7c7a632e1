-- The sequence that an instruction stands in, from that of the one before it.
use Rattle.std.proofs.Common.{◌≡◌, ℕ, suc, ◌+◌, ◌-◌, ◌<◌, ◌≤◌, ◌&&◌, not, true, false, if◌then◌else◌, refl, sym, ap, ◌∙◌, subst, arith}
use Rattle.std.proofs.lemmas.Bool.Decides.{nat_tests}
use Rattle.std.specs.Prelude.{nat_lt}
use Rattle.asm_target.specs.declared.sequence.Sequence.TheVariants.{Plain}
use Rattle.asm_target.specs.DepthChange.{is_hit}
use Rattle.asm_target.specs.FlowFunction.{FlowFunction, is_in_order, is_target, sequence_at, span_at, start_at, start_of}
use Rattle.asm_target.specs.Sequences.{count_of, span_of}
use Rattle.asm_target.proofs.RoleLemmas.{span_most}
use Rattle.flow_rules.specs.declared.role.Role.{Role}
use Rattle.flow_rules.specs.Lawful.{IsLawful}
use Rattle.flow_rules.specs.Passing.{IsRole, LeadsTo}

module _ (f : FlowFunction) where
  -- before the first instruction there is none
  pub leads_first : (role : Role) → role.past ≡ 0 → LeadsTo f 0 role
  unfolding start_of
  leads_first role none = record { inside = λ less. absurd (omega arith); over = λ low. refl }

  pub leads_on : (k : ℕ) (role : Role) → IsRole f k role → LeadsTo f (suc k) role
  unfolding start_of
  leads_on k role is = record {
    inside = λ less.
        let past = is.past in
        let test : nat_lt (suc k) (start_at f k + span_at f (start_at f k)) ≡ true = grind (arith, nat_tests) in
        let same : start_at f (suc k) ≡ start_at f k = rw test refl in
        record {
          start = is.start ∙ sym same;
          past = subst (λ (s : ℕ). role.past ≡ s + span_at f s) (sym same) is.past;
          found = is.found ∙ ap (sequence_at f) (sym same);
        };
    over = λ low.
        let past = is.past in
        let test : nat_lt (suc k) (start_at f k + span_at f (start_at f k)) ≡ false = grind (arith, nat_tests) in
        rw test refl;
  }

  -- an instruction's sequence ends inside the function
  pub span_inside : IsLawful f → (k : ℕ) → k < f.count → k + span_at f k ≤ f.count
  unfolding sequence_at
  span_inside lawful k inside =
      elim (is_in_order f k (f.found k) && not (is_hit (is_target f) k (count_of (f.found k) - 1)))
      as (λ b. k + span_of (if b then f.found k else Plain) ≤ f.count) [
        | true ↦ omega (arith, span_most (f.found k), lawful.within k inside)
        | false ↦ omega arith
      ]

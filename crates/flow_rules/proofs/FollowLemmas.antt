-- Which instruction follows another, and which rule is broken by that.
use Rattle.std.proofs.Common.{◌≡◌, ℕ, ℤ, pos, suc, ◌<◌, ◌==◌, ◌&&◌, ◌||◌, Bool, true, false, not, Option, Some, None, is_some, IfSome, refl, sym, subst}
use Rattle.std.proofs.lemmas.Bool.Decides.{Decides-eqb}
use Rattle.std.specs.Ordering.{int_eq}
use Rattle.machine_effect.specs.declared.flow.Flow.{Flow}
use Rattle.asm_target.specs.FlowFunction.{FlowFunction, is_goal, jump_goal, outgoing}
use Rattle.asm_target.specs.FlowRules.{breaks, breaks_f1, can_pass, differs, is_start}
use Rattle.asm_target.proofs.CleanLemmas.{none_below, some_below}
use Rattle.flow_rules.specs.Passing.{IsFirst}
use Rattle.flow_rules.proofs.FirstLemmas.{and_or, any_first, same_first}
use Rattle.flow_rules.proofs.HitLemmas.{unequal}

module _ (f : FlowFunction) where
  -- the instructions that follow one which does this, and have another depth than this one
  abbrev follows : ℕ → Flow → ℤ → ℕ → Bool
  follows k flow out j =
      ((can_pass flow.next && (suc k == j)) && not (int_eq out (pos (f.depth j))))
      || (is_goal (jump_goal flow.next) (f.at j) && not (int_eq out (pos (f.depth j))))

  pub follows_first : (k : ℕ) (flow : Flow) (out : ℤ) (first : Option ℕ) → flow ≡ f.flow k → out ≡ outgoing f k
      → IsFirst (follows k flow out) f.count first → IsFirst (differs f k) f.count first
  follows_first k flow out first does behind is =
      let there : IsFirst (follows k (f.flow k) out) f.count first =
      subst (λ (x : Flow). IsFirst (follows k x out) f.count first) does is in
      let here : IsFirst (follows k (f.flow k) (outgoing f k)) f.count first =
      subst (λ (d : ℤ). IsFirst (follows k (f.flow k) d) f.count first) behind there in
      same_first (follows k (f.flow k) (outgoing f k)) (differs f k) f.count first (λ j.
      and_or (can_pass (f.flow k).next && (suc k == j)) (is_goal (jump_goal (f.flow k).next) (f.at j))
      (not (int_eq (outgoing f k) (pos (f.depth j))))) here

  -- there is one exactly where F1 is broken
  pub breaks_first : (k : ℕ) (first : Option ℕ) → IsFirst (differs f k) f.count first → breaks_f1 f k ≡ is_some first
  breaks_first k first is = any_first (differs f k) f.count first is

  pub none_unbroken : (k rule : ℕ) → rule ≡ 1 → breaks f k rule ≡ true → ¬ IsFirst (differs f k) f.count None
  unfolding breaks
  none_unbroken k rule one broken none =
      let is : breaks_f1 f k ≡ true = subst (λ (n : ℕ). breaks f k n ≡ true) one broken in
      cc (is, breaks_first k None none)

  -- there is no rule of number 0
  pub no_rule : (k : ℕ) → breaks f k 0 ≡ false
  unfolding breaks
  no_rule k = refl

  -- the instruction that stands at an address
  pub started : (address : ℕ) (found : Option ℕ) → IfSome found (λ k. k < f.count) → IfSome found (λ k. f.at k ≡ address)
      → (found ≡ None → (k : ℕ) → k < f.count → ¬ (f.at k ≡ address)) → is_some found ≡ is_start f address
  started address (Some k) inside there none =
      sym (some_below (λ j. f.at j == address) f.count k inside ((Decides-eqb (f.at k) address).1 there))
  started address None inside there none =
      sym (none_below (λ j. f.at j == address) f.count (λ j less. unequal (f.at j) address (none refl j less)))

-- Jumps into sequences.
use Rattle.std.proofs.Common.{◌≡◌, ℕ, suc, ◌+◌, ◌-◌, ◌<◌, ◌≤◌, ◌==◌, true, false, Some, refl, sym, subst, arith}
use Rattle.std.proofs.lemmas.Bool.Decides.{Decides-eqb}
use Rattle.asm_target.specs.FlowFunction.{FlowFunction, is_goal, is_target, jump_goal, next_at}
use Rattle.asm_target.specs.Sequences.{count_of}
use Rattle.asm_target.proofs.CleanLemmas.{none_below, some_below}
use Rattle.flow_rules.specs.Passing.{AreUnhit, GoesOver, IsBroken}

pub unequal : (a b : ℕ) → ¬ (a ≡ b) → (a == b) ≡ false
unequal a b unlike =
    elim (a == b) as (λ e. (a == b) ≡ e → e ≡ false) [
      | true ↦ (λ is. absurd (unlike ((Decides-eqb a b).0 is)))
      | false ↦ (λ is. refl)
    ] refl

module _ (f : FlowFunction) where
  -- the jump of one instruction goes into none of the sequences that begin before `first` and are in order
  abbrev pub Misses : ℕ → ℕ → Type 0
  Misses first i = (s j : ℕ) → s < first → GoesOver f s (s + j) → 0 < j → is_goal (jump_goal (next_at f i)) (f.at (s + j)) ≡ false

  -- nor do those of the first n
  pub record Spared (first n : ℕ) : Type 0 where
    pub most : first ≤ f.count
    pub none : (i : ℕ) → i < n → Misses first i
    pub hit : first < f.count → IsBroken f first

  pub unhit : (first : ℕ) → Spared first f.count → AreUnhit f first
  unhit first spared s before order =
      none_below (λ j. is_target f (s + suc j)) (count_of (f.found s) - 1) (λ j less.
      none_below (λ i. is_goal (jump_goal (next_at f i)) (f.at (s + suc j))) f.count (λ i inside.
      spared.none i inside s (suc j) before (record { order = order; over = omega arith }) (omega arith)))

  -- a jump to an instruction goes into the sequences that begin before and have it
  pub broken : (number goal landing s : ℕ) → number < f.count → jump_goal (next_at f number) ≡ Some goal → f.at landing ≡ goal
      → s < landing → GoesOver f s landing → IsBroken f s
  broken number goal landing s inside goes there before over =
      let past = over.over in
      let jumps : is_goal (jump_goal (next_at f number)) (f.at landing) ≡ true =
      rw goes ((Decides-eqb goal (f.at landing)).1 (sym there)) in
      let hit : is_target f landing ≡ true =
      some_below (λ i. is_goal (jump_goal (next_at f i)) (f.at landing)) f.count number inside jumps in
      let at : s + suc (landing - suc s) ≡ landing = omega arith in
      record {
        order = over.order;
        hit = some_below (λ j. is_target f (s + suc j)) (count_of (f.found s) - 1) (landing - suc s) (omega arith)
            (subst (λ (k : ℕ). is_target f k ≡ true) (sym at) hit);
      }

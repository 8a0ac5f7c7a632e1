-- Which sequence a position of a function stands in.
use Rattle.std.proofs.Common.{◌≡◌, ℕ, zero, suc, ◌+◌, ◌-◌, ◌<◌, ◌≤◌, ◌&&◌, ◌⊎◌, inl, inr, Bool, true, false, not, refl, sym, ap, ◌∙◌, subst, arith, if◌then◌else◌}
use Rattle.std.proofs.lemmas.Bool.{cases_order}
use Rattle.std.proofs.lemmas.Bool.Decides.{nat_tests}
use Rattle.std.specs.Prelude.{nat_lt}
use Rattle.asm_target.specs.declared.sequence.Sequence.{Sequence}
use Rattle.asm_target.specs.declared.sequence.Sequence.TheVariants.{Plain}
use Rattle.asm_target.specs.DepthChange.{any_below, is_hit}
use Rattle.asm_target.specs.FlowFunction.{FlowFunction, is_goal, is_in_order, is_target, jump_goal, next_at, sequence_at, span_at, start_at, start_of}
use Rattle.asm_target.specs.Sequences.{count_of, span_of}
use Rattle.asm_target.proofs.CleanLemmas.{some_below}
use Rattle.asm_target.proofs.RoleLemmas.{span_most}
use Rattle.flow_rules.specs.Lawful.{IsLawful}

start_bounds : (len : ℕ → ℕ) → ((k : ℕ) → 0 < len k) → (k : ℕ)
    → (start_of len k ≤ k) × (k < start_of len k + len (start_of len k))
unfolding start_of
start_bounds len some zero = (omega arith, omega (arith, some 0))
start_bounds len some (suc k) =
    let before = start_bounds len some k in
    let start : ℕ = start_of len k in
    elim (nat_lt (suc k) (start + len start)) as (λ b. nat_lt (suc k) (start + len start) ≡ b
    → ((if b then start else suc k) ≤ suc k) × (suc k < (if b then start else suc k) + len (if b then start else suc k))) [
      | true ↦ (λ is. (omega (arith, before.0), grind (arith, nat_tests)))
      | false ↦ (λ is. (omega arith, omega (arith, some (suc k))))
    ] refl

start_again : (len : ℕ → ℕ) (k : ℕ) → start_of len (start_of len k) ≡ start_of len k
unfolding start_of
start_again len zero = refl
start_again len (suc k) =
    let start : ℕ = start_of len k in
    elim (nat_lt (suc k) (start + len start)) as (λ b. nat_lt (suc k) (start + len start) ≡ b
    → start_of len (if b then start else suc k) ≡ (if b then start else suc k)) [
      | true ↦ (λ is. start_again len k)
      | false ↦ (λ is. rw is refl)
    ] refl

start_on : (len : ℕ → ℕ) (k : ℕ) → suc k < start_of len k + len (start_of len k) → start_of len (suc k) ≡ start_of len k
unfolding start_of
start_on len k less =
    let test : nat_lt (suc k) (start_of len k + len (start_of len k)) ≡ true = grind (arith, nat_tests) in
    rw test refl

start_anew : (len : ℕ → ℕ) (k : ℕ) → suc k ≡ start_of len k + len (start_of len k) → start_of len (suc k) ≡ suc k
unfolding start_of
start_anew len k same =
    let test : nat_lt (suc k) (start_of len k + len (start_of len k)) ≡ false = grind (arith, nat_tests) in
    rw test refl

pub start_first : (f : FlowFunction) → start_at f 0 ≡ 0
unfolding start_of
start_first f = refl

-- a number below n that meets a test that none meets
pub none_under : (test : ℕ → Bool) (n j : ℕ) → any_below test n ≡ false → j < n → test j ≡ false
none_under test n j none less =
    elim (test j) as (λ b. test j ≡ b → b ≡ false) [
      | true ↦ (λ is. sym (some_below test n j less is) ∙ none)
      | false ↦ (λ is. refl)
    ] refl

module _ (f : FlowFunction) where
  -- a sequence that counts is in order, and no jump goes into it
  pub record Counts (s : ℕ) : Type 0 where
    pub same : sequence_at f s ≡ f.found s
    pub order : is_in_order f s (f.found s) ≡ true
    pub unhit : is_hit (is_target f) s (count_of (f.found s) - 1) ≡ false

  count_here : (s : ℕ) → is_in_order f s (f.found s) ≡ true → is_hit (is_target f) s (count_of (f.found s) - 1) ≡ false
      → sequence_at f s ≡ f.found s
  unfolding sequence_at
  count_here s order unhit = rw (order, unhit) refl

  plain_here : (s : ℕ) → (is_in_order f s (f.found s) && not (is_hit (is_target f) s (count_of (f.found s) - 1))) ≡ false
      → sequence_at f s ≡ Plain
  unfolding sequence_at
  plain_here s off = rw off refl

  both : (one other : Bool) → (one && not other) ≡ true → (one ≡ true) × (other ≡ false)
  both true true is = (refl, sym is)
  both true false is = (refl, refl)
  both false other is = absurd (cc)

  pub cases_counts : (s : ℕ) → (sequence_at f s ≡ Plain) ⊎ Counts s
  cases_counts s =
      let order : Bool = is_in_order f s (f.found s) in
      let hit : Bool = is_hit (is_target f) s (count_of (f.found s) - 1) in
      elim (order && not hit) as (λ b. (order && not hit) ≡ b → (sequence_at f s ≡ Plain) ⊎ Counts s) [
        | true ↦ (λ is.
            let two = both order hit is in
            inr (record { same = count_here s two.0 two.1; order = two.0; unhit = two.1 }))
        | false ↦ (λ is. inl (plain_here s is))
      ] refl

  module _ (lawful : IsLawful f) where
    pub span_some : (k : ℕ) → 0 < span_at f k
    span_some k =
        elim (cases_counts k) as (λ _. 0 < span_at f k) [
          | inl plain ↦ subst (λ (q : Sequence). 0 < span_of q) (sym plain) (omega arith)
          | inr counts ↦ subst (λ (q : Sequence). 0 < span_of q) (sym counts.same) (lawful.some k)
        ]

    pub start_low : (k : ℕ) → start_at f k ≤ k
    start_low k = (start_bounds (span_at f) span_some k).0

    pub start_inside : (k : ℕ) → k < start_at f k + span_at f (start_at f k)
    start_inside k = (start_bounds (span_at f) span_some k).1

    pub start_back : (k : ℕ) → start_at f (start_at f k) ≡ start_at f k
    start_back k = start_again (span_at f) k

    pub start_within : (k : ℕ) → suc k < start_at f k + span_at f (start_at f k) → start_at f (suc k) ≡ start_at f k
    start_within k less = start_on (span_at f) k less

    pub start_behind : (k : ℕ) → suc k ≡ start_at f k + span_at f (start_at f k) → start_at f (suc k) ≡ suc k
    start_behind k same = start_anew (span_at f) k same

    -- where a jump goes, a sequence begins
    pub start_there : (i j : ℕ) → i < f.count → is_goal (jump_goal (next_at f i)) (f.at j) ≡ true → start_at f j ≡ j
    start_there i j inside goes =
        let s : ℕ = start_at f j in
        let low = start_low j in
        let less = start_inside j in
        elim (cases_order s j) as (λ _. s ≡ j) [
          | inl same ↦ same
          | inr (inr more) ↦ absurd (omega arith)
          | inr (inl under) ↦
              elim (cases_counts s) as (λ _. s ≡ j) [
                | inl plain ↦ (let one : span_at f s ≡ 1 = ap span_of plain in absurd (omega arith))
                | inr counts ↦
                    (let n : ℕ = count_of (f.found s) - 1 in
                    let m : ℕ = j - s - 1 in
                    let span : span_at f s ≡ span_of (f.found s) = ap span_of counts.same in
                    let most = span_most (f.found s) in
                    let there : s + suc m ≡ j = omega arith in
                    let target : is_target f j ≡ true =
                    some_below (λ i. is_goal (jump_goal (next_at f i)) (f.at j)) f.count i inside goes in
                    let hit : is_hit (is_target f) s n ≡ true =
                    some_below (λ k. is_target f (s + suc k)) n m (omega arith)
                    (subst (λ (p : ℕ). is_target f p ≡ true) (sym there) target) in
                    absurd (cc (hit, counts.unhit)))
              ]
        ]

-- When an instruction breaks no flow rule.
use Rattle.std.proofs.Common.{◌≡◌, ℕ, zero, suc, ◌<◌, ◌≤◌, ◌==◌, ◌&&◌, ◌||◌, ◌⊎◌, inl, inr, Bool, true, false, not, pos, refl, sym, ap, ◌∙◌, subst, arith, if◌then◌else◌, is_some}
use Rattle.std.proofs.lemmas.Bool.Decides.{nat_tests, Decides-int_eq, Decides-eqb}
use Rattle.std.specs.Ordering.{int_eq}
use Rattle.std.specs.Prelude.{int_lt}
use Rattle.machine_effect.specs.declared.next.Next.{Next}
use Rattle.machine_effect.specs.declared.next.Next.TheVariants as next
use Rattle.asm_target.specs.DepthChange.{any_below}
use Rattle.asm_target.specs.FlowFunction.{FlowFunction, call_goal, is_among, is_goal, is_within, jump_goal, next_at, outgoing}
use Rattle.asm_target.specs.FlowRules.{breaks, breaks_f1, breaks_f2, breaks_f3, breaks_f4, breaks_f5, breaks_f6, breaks_f7, breaks_f8, breaks_f9, can_follow, can_pass, differs, greatest_depth, is_amid, is_leaving, is_start, is_stray}

-- no number below n meets the test
pub none_below : (test : ℕ → Bool) (n : ℕ) → ((j : ℕ) → j < n → test j ≡ false) → any_below test n ≡ false
none_below test zero none = refl
none_below test (suc n) none =
    rw (none_below test n (λ j less. none j (omega arith)), none n (omega arith)) refl

-- some number does
pub some_below : (test : ℕ → Bool) (n j : ℕ) → j < n → test j ≡ true → any_below test n ≡ true
some_below test zero j less meets = absurd (omega arith)
some_below test (suc n) j less meets = grind (arith, some_below test n j)

and_not : (a b : Bool) → (a ≡ true → b ≡ true) → (a && not b) ≡ false
and_not false b holds = refl
and_not true b holds = rw (holds refl) refl

pub either : (test one other : Bool) → one ≡ false → other ≡ false → (if test then one else other) ≡ false
either true one other first second = first
either false one other first second = second

and_false : (test one : Bool) → one ≡ false → (test && one) ≡ false
and_false true one is = is
and_false false one is = refl

pub and_off : (one : Bool) → (one && false) ≡ false
and_off true = refl
and_off false = refl

pub cases_or : (one other : Bool) → (one || other) ≡ true → (one ≡ true) ⊎ (other ≡ true)
cases_or true other is = inl refl
cases_or false other is = inr is

module _ (f : FlowFunction) (k : ℕ) where
  pub record Unbroken : Type 0 where
    pub f1 : breaks_f1 f k ≡ false
    pub f2 : breaks_f2 f k ≡ false
    pub f3 : breaks_f3 f k ≡ false
    pub f4 : breaks_f4 f k ≡ false
    pub f5 : breaks_f5 f k ≡ false
    pub f6 : breaks_f6 f k ≡ false
    pub f7 : breaks_f7 f k ≡ false
    pub f8 : breaks_f8 f k ≡ false
    pub f9 : breaks_f9 f k ≡ false

  pub unbroken : Unbroken → (rule : ℕ) → breaks f k rule ≡ false
  unfolding breaks
  unbroken is rule =
      either (rule == 1) _ _ is.f1
      (either (rule == 2) _ _ is.f2
      (either (rule == 3) _ _ is.f3
      (either (rule == 4) _ _ is.f4
      (either (rule == 5) _ _ is.f5
      (either (rule == 6) _ _ is.f6
      (either (rule == 7) _ _ is.f7
      (either (rule == 8) _ _ is.f8
      (and_false (rule == 9) _ is.f9))))))))

  -- what follows has the depth behind the instruction
  pub level_f1 : (d : ℕ) → outgoing f k ≡ pos d
      → ((j : ℕ) → j < f.count → can_follow f k j ≡ true → f.depth j ≡ d) → breaks_f1 f k ≡ false
  level_f1 d out same =
      none_below (differs f k) f.count (λ j inside.
      and_not (can_follow f k j) (int_eq (outgoing f k) (pos (f.depth j))) (λ follows.
      (Decides-int_eq (outgoing f k) (pos (f.depth j))).1 (out ∙ ap pos (sym (same j inside follows)))))

  bounds : (d : ℕ) → d ≤ greatest_depth → (int_lt (pos d) (pos 0) ≡ false) × (int_lt (pos greatest_depth) (pos d) ≡ false)
  bounds d most = (grind (arith, nat_tests), grind (arith, nat_tests))

  entered : (k ≡ 0 → f.depth k ≡ 0) → ((k == 0) && not (f.depth k == 0)) ≡ false
  entered start = and_not (k == 0) (f.depth k == 0) (λ is. (Decides-eqb (f.depth k) 0).1 (start ((Decides-eqb k 0).0 is)))

  pub level_f9 : (d : ℕ) → outgoing f k ≡ pos d → d ≤ greatest_depth → (k ≡ 0 → f.depth k ≡ 0) → breaks_f9 f k ≡ false
  level_f9 d out most start = rw (out, (bounds d most).0, (bounds d most).1, entered start) refl

  -- an instruction behind which the machine goes on
  pub record Falls (d : ℕ) : Type 0 where
    pub falls : next_at f k ≡ next.Fall
    pub out : outgoing f k ≡ pos d
    pub behind : f.depth (suc k) ≡ d
    pub inside : suc k < f.count
    pub most : d ≤ greatest_depth
    pub entry : k ≡ 0 → f.depth k ≡ 0
    pub f2 : breaks_f2 f k ≡ false
    pub f8 : breaks_f8 f k ≡ false

  passed : (j : ℕ) → (next_at f k ≡ next.Fall) → can_follow f k j ≡ true → suc k ≡ j
  passed j falls follows =
      let is : ((true && (suc k == j)) || false) ≡ true = rw falls at follows in
      grind (arith, nat_tests)

  pub falling : (d : ℕ) → Falls d → Unbroken
  falling d is = record {
    f1 = level_f1 d is.out (λ j inside follows. subst (λ (j : ℕ). f.depth j ≡ d) (passed j is.falls follows) is.behind);
    f2 = is.f2;
    f3 = rw is.falls refl;
    f4 = rw is.falls refl;
    f5 = rw is.falls refl;
    f6 = (let more : (suc k == f.count) ≡ false = (let less = is.inside in grind (arith, nat_tests)) in rw (is.falls, more) refl);
    f7 = (let none : (is_some f.link && false) ≡ false = grind arith in rw is.falls none);
    f8 = is.f8;
    f9 = level_f9 d is.out is.most is.entry;
  }

  -- the address is that of an instruction at depth 0
  pub record IsBase (goal : ℕ) : Type 0 where
    pub position : ℕ
    pub inside : position < f.count
    pub at : f.at position ≡ goal
    pub depth : f.depth position ≡ 0

  -- the function goes on at depth 0 behind the instruction
  pub record GoesOn : Type 0 where
    pub inside : suc k < f.count
    pub depth : f.depth (suc k) ≡ 0

  -- where the machine may go on from an instruction of a check or its block
  abbrev pub IsMild : Next → Type 0
  IsMild next.Fall = GoesOn
  IsMild (next.Branch held goal) = GoesOn × IsBase goal
  IsMild (next.Jump goal) = IsBase goal
  IsMild (next.Call goal link) = GoesOn × (is_within f.text goal ≡ false)
  IsMild _ = ⊥

  -- an instruction at depth 0 that stays there
  pub record IsLevel : Type 0 where
    pub distinct : (i j : ℕ) → i < f.count → j < f.count → f.at i ≡ f.at j → i ≡ j
    pub depth : f.depth k ≡ 0
    pub out : outgoing f k ≡ pos 0
    pub f2 : breaks_f2 f k ≡ false
    pub f7 : breaks_f7 f k ≡ false
    pub f8 : breaks_f8 f k ≡ false

  same_base : IsLevel → (goal j : ℕ) → IsBase goal → j < f.count → goal ≡ f.at j → f.depth j ≡ 0
  same_base is goal j base inside at =
      let same : base.position ≡ j = is.distinct base.position j base.inside inside (base.at ∙ at) in
      subst (λ (j : ℕ). f.depth j ≡ 0) same base.depth

  next_level : GoesOn → (j : ℕ) → suc k ≡ j → f.depth j ≡ 0
  next_level goes j same = subst (λ (j : ℕ). f.depth j ≡ 0) same goes.depth

  not_stray : (goal : ℕ) → IsBase goal → is_stray f goal ≡ false
  not_stray goal base =
      let started : is_start f goal ≡ true =
      some_below (λ j. f.at j == goal) f.count base.position base.inside ((Decides-eqb (f.at base.position) goal).1 base.at) in
      rw started (and_off (is_within f.text goal))

  unfinished : GoesOn → (suc k == f.count) ≡ false
  unfinished goes = let less = goes.inside in grind (arith, nat_tests)

  off : (is_some f.link && false) ≡ false
  off = and_off (is_some f.link)

  followed : IsLevel → (goes : Next) → IsMild goes → (j : ℕ) → j < f.count
      → ((can_pass goes && (suc k == j)) || is_goal (jump_goal goes) (f.at j)) ≡ true → f.depth j ≡ 0
  followed is next.Fall mild j inside follows = next_level mild j (grind (arith, nat_tests))
  followed is (next.Branch held goal) mild j inside follows =
      elim (cases_or (suc k == j) (goal == f.at j) follows) as (λ _. f.depth j ≡ 0) [
        | inl passes ↦ next_level mild.0 j ((Decides-eqb (suc k) j).0 passes)
        | inr goes ↦ same_base is goal j mild.1 inside ((Decides-eqb goal (f.at j)).0 goes)
      ]
  followed is (next.Jump goal) mild j inside follows =
      same_base is goal j mild inside ((Decides-eqb goal (f.at j)).0 follows)
  followed is (next.Call goal link) mild j inside follows = next_level mild.0 j (grind (arith, nat_tests))
  followed is (next.JumpTo goal) mild j inside follows = absurd mild
  followed is (next.CallTo goal link) mild j inside follows = absurd mild
  followed is next.Return mild j inside follows = absurd mild
  followed is next.System mild j inside follows = absurd mild
  followed is next.Stop mild j inside follows = absurd mild

  told_f4 : (goes : Next) → IsMild goes → is_among (is_stray f) (jump_goal goes) ≡ false
  told_f4 (next.Branch held goal) mild = not_stray goal mild.1
  told_f4 (next.Jump goal) mild = not_stray goal mild
  told_f4 _ mild = refl

  told_f5 : (goes : Next) → IsMild goes → is_among (is_amid f) (call_goal goes) ≡ false
  told_f5 (next.Call goal link) mild = rw mild.1 refl
  told_f5 _ mild = refl

  told_f6 : (goes : Next) → IsMild goes → (can_pass goes && (suc k == f.count)) ≡ false
  told_f6 next.Fall mild = unfinished mild
  told_f6 (next.Branch held goal) mild = unfinished mild.0
  told_f6 (next.Call goal link) mild = unfinished mild.0
  told_f6 next.Return mild = refl
  told_f6 (next.Jump goal) mild = refl
  told_f6 (next.JumpTo goal) mild = refl
  told_f6 (next.CallTo goal link) mild = absurd mild
  told_f6 next.System mild = absurd mild
  told_f6 next.Stop mild = refl

  pub leveled : (goes : Next) → next_at f k ≡ goes → IsMild goes → IsLevel → Unbroken
  leveled goes is mild level = record {
    f1 = level_f1 0 level.out (λ j inside follows. followed level goes mild j inside (rw is at follows));
    f2 = level.f2;
    f3 = rw level.depth (and_off (is_leaving f (next_at f k)));
    f4 = rw is (told_f4 goes mild);
    f5 = rw is (told_f5 goes mild);
    f6 = rw is (told_f6 goes mild);
    f7 = level.f7;
    f8 = level.f8;
    f9 = level_f9 0 level.out (omega arith) (λ _. level.depth);
  }

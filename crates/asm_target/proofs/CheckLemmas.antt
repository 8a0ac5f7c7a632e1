-- A check and its block break no flow rule, where what happens to the depth and the link register is known to be harmless.
use Rattle.std.proofs.Common.{◌≡◌, ℕ, zero, suc, List, [], ◌∷◌, ◌+◌, ◌<◌, ◌≤◌, ◌==◌, ◌⊎◌, Bool, true, false, Option, Some, pos, length, refl, sym, ap, ◌∙◌, subst, arith, inl, inr, is_some}
use Rattle.std.proofs.lemmas.Bool.{cases_order}
use Rattle.std.proofs.lemmas.List.Elements.{All-cons, All-nil, All-head, All-tail}
use Rattle.std.specs.List.{slice_get}
use Rattle.std.specs.Prelude.{All, ◌+ℤ◌, ◌^◌}
use Rattle.machine_effect.specs.declared.flow.Shape.{Shape}
use Rattle.machine_effect.specs.declared.flow.SpMove.TheVariants.{Keep}
use Rattle.machine_effect.specs.declared.next.Next.{Next}
use Rattle.machine_effect.specs.declared.next.Next.TheVariants as next
use Rattle.asm_target.specs.declared.frame.Guard.{Guard}
use Rattle.asm_target.specs.declared.refer.Picked.{Picked}
use Rattle.asm_target.specs.declared.refer.To.{To}
use Rattle.asm_target.specs.declared.refer.To.TheVariants as to
use Rattle.asm_target.specs.declared.sequence.Sequence.{Sequence}
use Rattle.asm_target.specs.Aiming.{Aiming}
use Rattle.asm_target.specs.DepthChange.{is_call}
use Rattle.asm_target.specs.FlowFunction.{FlowFunction, is_within, next_at, outgoing, start_at}
use Rattle.asm_target.specs.FlowRules.{breaks, breaks_f2, breaks_f7, breaks_f8}
use Rattle.asm_target.specs.InstructionSet.{InstructionSet}
use Rattle.asm_target.specs.Standing.{IsGuarded, StandsGuarded, guard_goal}
use Rattle.asm_target.proofs.BlockLemmas.{EndsSo, IsBlock, as_many, block_fits, block_mild, block_some, ends_so}
use Rattle.asm_target.proofs.CleanLemmas.{GoesOn, IsBase, IsMild, Unbroken, and_off, either, leveled, unbroken}
use Rattle.asm_target.proofs.FrameLemmas.{flow_next, same_pos}
use Rattle.asm_target.proofs.GuardLemmas.{DoesHere, GuardLaws, IsBranchPick, IsJumpPick, IsMildPick, IsQuietPick, Soft, branch, jump, quiet}
use Rattle.asm_target.proofs.LevelLemmas.{IsMildAt, mild_code}
use Rattle.asm_target.proofs.PlaceLemmas.{one_place}

pub some_is : (a b : ℕ) → Some a ≡ Some b → a ≡ b
some_is a b same = cc

-- the stack pointer stays
kept_f2 : (f : FlowFunction) (p : ℕ) → (f.flow p).sp ≡ Keep → breaks_f2 f p ≡ false
kept_f2 f p keep = rw keep (either (is_some f.link) _ _ refl refl)

-- no call
pub calm_f7 : (f : FlowFunction) (p : ℕ) → is_call (next_at f p) ≡ false → breaks_f7 f p ≡ false
calm_f7 f p no_call = rw no_call (and_off (is_some f.link))

-- at depth 0 the link register stays and isn't stored
pub calm_f8 : (f : FlowFunction) (p : ℕ) → f.depth p ≡ 0 → (f.flow p).writes_link ≡ false → (f.flow p).stores_link ≡ false
    → breaks_f8 f p ≡ false
calm_f8 f p depth writes stores =
    rw (depth, writes, stores) (rw (and_off (start_at f p == p)) (rw (and_off _) (and_off (is_some f.link))))

module _ {Instr : Type 0} (set : InstructionSet Instr) (fits : Instr → Type 0) (begins : List Instr → Sequence) (shape : Shape) (aiming : Aiming Instr) where
  -- where the jumps of a check go
  abbrev pub IsOwn : Bool → To → Type 0
  IsOwn in_place to.Entry = Unit {0}
  IsOwn in_place to.Block = Unit {0}
  IsOwn in_place to.Past = in_place ≡ true
  IsOwn in_place _ = ⊥

  -- an instruction of a check
  pub data IsHeadPick (in_place : Bool) (pick : Picked Instr) : Type 0 where
    goes_on : IsQuietPick set fits begins shape aiming pick → IsHeadPick in_place pick
    jumps : (to : To) → IsOwn in_place to → IsJumpPick set fits begins shape aiming to pick → IsHeadPick in_place pick
    branches : (to : To) → IsOwn in_place to → IsBranchPick set fits begins shape aiming to pick → IsHeadPick in_place pick

  -- what a check and its block are made of
  pub record IsMadeSo (guard : Guard Instr) : Type 0 where
    pub head : All (IsHeadPick guard.in_place) guard.head
    pub block : IsBlock set fits begins shape aiming guard.block

  module _ (laws : GuardLaws set fits begins shape aiming) (guard : Guard Instr) (made : IsMadeSo guard) (f : FlowFunction)
      (block routine : ℕ) (head body : List Instr) (s : StandsGuarded set fits begins shape aiming f guard block routine head body) where
    pub past : ℕ
    past = block + length body

    abbrev goals : To → Option ℕ
    goals = guard_goal f block (block + length body) routine

    two : 2 ≤ length body
    two =
        let many = as_many set fits begins shape aiming laws goals (f.at block) guard.block body
        (block_fits set fits begins shape aiming guard.block made.block) s.body_placed in
        omega (arith, block_some set fits begins shape aiming guard.block made.block)

    within : block + length body ≤ f.count
    within =
        elim guard.in_place as (λ b. guard.in_place ≡ b → block + length body ≤ f.count) [
          | true ↦ (λ is. omega (arith, (s.in_place is).1))
          | false ↦ (λ is. omega (arith, (s.at_end is).1))
        ] refl

    distinct : (i j : ℕ) → i < f.count → j < f.count → f.at i ≡ f.at j → i ≡ j
    distinct = one_place set fits begins shape f s.all s.whole laws.some

    -- places where the depth is 0
    abbrev IsZero : ℕ → Type 0
    IsZero m = (m ≤ length head) ⊎ ((m ≡ block) ⊎ ((m ≡ block + length body) × (guard.in_place ≡ true)))

    pub record IsKnown (goal : ℕ) : Type 0 where
      pub m : ℕ
      pub inside : m < f.count
      pub at : f.at m ≡ goal
      pub zero_there : IsZero m

    pub near : (goal : ℕ) → IsKnown goal → goal < 2 ^ 64
    near goal is = subst (λ (a : ℕ). a < 2 ^ 64) is.at (s.whole.addresses is.m is.inside)

    known : (to : To) → IsOwn guard.in_place to → (goal : ℕ) → goals to ≡ Some goal → IsKnown goal
    known to.Entry own goal is = record { m = 0; inside = omega (arith, s.goes_on); at = cc; zero_there = inl (omega arith) }
    known to.Block own goal is = record { m = block; inside = omega (arith, two, within); at = cc; zero_there = inr (inl refl) }
    known to.Past own goal is =
        record { m = block + length body; inside = (s.in_place own).1; at = cc; zero_there = inr (inr (refl, own)) }
    known (to.Stmt number) own goal is = absurd own
    known (to.Symbol number off) own goal is = absurd own
    known to.Grow own goal is = absurd own

    abbrev Nothing : ℕ → Type 0
    Nothing goal = ⊥

    pub never_near : (goal : ℕ) → Nothing goal → goal < 2 ^ 64
    never_near goal is = absurd is

    abbrev HeadMild : Picked Instr → Type 0
    HeadMild = IsMildPick set fits begins shape aiming laws goals IsKnown Nothing near never_near (Unit {0})

    mild_pick : (pick : Picked Instr) → IsHeadPick guard.in_place pick → HeadMild pick
    mild_pick pick (goes_on is) = quiet is
    mild_pick pick (jumps to own is) = jump to (known to own) is
    mild_pick pick (branches to own is) = branch to (known to own) tt is

    all_mild : (picks : List (Picked Instr)) → All (IsHeadPick guard.in_place) picks → All HeadMild picks
    all_mild [] all = All-nil HeadMild
    all_mild (pick ∷ picks) all =
        All-cons HeadMild pick picks (mild_pick pick (All-head (IsHeadPick guard.in_place) pick picks all))
        (all_mild picks (All-tail (IsHeadPick guard.in_place) pick picks all))

    abbrev pub HeadAt : ℕ → Type 0
    HeadAt = IsMildAt set fits begins shape aiming f s.all s.whole laws goals IsKnown Nothing near never_near

    pub head_at : (k : ℕ) → k < length head → HeadAt (0 + k)
    head_at k less =
        mild_code set fits begins shape aiming f s.all s.whole laws goals IsKnown Nothing near never_near (Unit {0}) (length head)
        (λ _. s.goes_on) (λ _ m most. record { m = m; inside = omega (arith, s.goes_on); at = refl; zero_there = inl most })
        guard.head head s.rest 0 k (all_mild guard.head made.head) s.head_placed s.head_here (omega arith) (omega (arith, s.goes_on)) less

    -- an instruction's flow where it stands
    next_is : (p : ℕ) (i : Instr) (goes : Next) → slice_get s.all p ≡ Some i
        → DoesHere set fits begins shape aiming goes i (f.at p) → next_at f p ≡ goes
    next_is p i goes here does = ap (λ flow. flow.next) (s.whole.flow p i here) ∙ flow_next (set.effect i (f.at p)) shape ∙ does.told

    kept : (p : ℕ) (i : Instr) (goes : Next) → slice_get s.all p ≡ Some i
        → DoesHere set fits begins shape aiming goes i (f.at p) → (f.flow p).sp ≡ Keep
    kept p i goes here does = ap (λ flow. flow.sp) (s.whole.flow p i here) ∙ does.keeps

    unwritten_is : (p : ℕ) (i : Instr) (goes : Next) → slice_get s.all p ≡ Some i
        → DoesHere set fits begins shape aiming goes i (f.at p) → is_call goes ≡ false → (f.flow p).writes_link ≡ false
    unwritten_is p i goes here does no_call = ap (λ flow. flow.writes_link) (s.whole.flow p i here) ∙ does.unwritten no_call

    unstored_is : (p : ℕ) (i : Instr) (goes : Next) → slice_get s.all p ≡ Some i
        → DoesHere set fits begins shape aiming goes i (f.at p) → (f.flow p).stores_link ≡ false
    unstored_is p i goes here does = ap (λ flow. flow.stores_link) (s.whole.flow p i here) ∙ does.unstored

    -- what has to be known beside that
    pub record IsCalm : Type 0 where
      pub head_out : (k : ℕ) → k < length head → (f.flow k).sp ≡ Keep → outgoing f k ≡ pos (f.depth k) +ℤ pos 0
      pub body_out : (k : ℕ) → k < length body → (f.flow (block + k)).sp ≡ Keep
          → outgoing f (block + k) ≡ pos (f.depth (block + k)) +ℤ pos 0
      pub call_f7 : (n : ℕ) → suc (suc n) ≡ length body → breaks_f7 f (block + n) ≡ false
      pub call_f8 : (n : ℕ) → suc (suc n) ≡ length body → f.depth (block + n) ≡ 0 → (f.flow (block + n)).stores_link ≡ false
          → breaks_f8 f (block + n) ≡ false

    pub calls_block : EndsSo set fits begins shape aiming laws goals f s.all s.whole
        (λ goal is. subst (λ (a : ℕ). a < 2 ^ 64) (some_is (f.at 0) goal is) (s.whole.addresses 0 (omega (arith, s.goes_on))))
        (λ goal is. subst (λ (a : ℕ). a < 2 ^ 64) (some_is routine goal is) s.routine_low) block body
    calls_block =
        let many = as_many set fits begins shape aiming laws goals (f.at block) guard.block body
        (block_fits set fits begins shape aiming guard.block made.block) s.body_placed in
        ends_so set fits begins shape aiming laws goals f s.all s.whole
        (λ goal is. subst (λ (a : ℕ). a < 2 ^ 64) (some_is (f.at 0) goal is) (s.whole.addresses 0 (omega (arith, s.goes_on))))
        (λ goal is. subst (λ (a : ℕ). a < 2 ^ 64) (some_is routine goal is) s.routine_low)
        guard.block body s.behind block made.block s.body_placed s.body_here within (omega (arith, within))

    abbrev IsEntry : ℕ → Type 0
    IsEntry goal = f.at 0 ≡ goal

    abbrev IsRoutine : ℕ → Type 0
    IsRoutine goal = routine ≡ goal

    pub near_entry : (goal : ℕ) → IsEntry goal → goal < 2 ^ 64
    near_entry goal is = subst (λ (a : ℕ). a < 2 ^ 64) is (s.whole.addresses 0 (omega (arith, s.goes_on)))

    pub near_routine : (goal : ℕ) → IsRoutine goal → goal < 2 ^ 64
    near_routine goal is = subst (λ (a : ℕ). a < 2 ^ 64) is s.routine_low

    abbrev pub BodyAt : ℕ → Type 0
    BodyAt = IsMildAt set fits begins shape aiming f s.all s.whole laws goals IsEntry IsRoutine near_entry near_routine

    pub body_at : (k : ℕ) → k < length body → BodyAt (block + k)
    body_at k less =
        mild_code set fits begins shape aiming f s.all s.whole laws goals IsEntry IsRoutine near_entry near_routine ⊥ (block + length body)
        (λ never. absurd never) (λ never m most. absurd never) guard.block body s.behind block k
        (block_mild set fits begins shape aiming laws goals IsEntry IsRoutine near_entry near_routine guard.block made.block
        (λ goal is. some_is (f.at 0) goal is) (λ goal is. some_is routine goal is))
        s.body_placed s.body_here (omega arith) within less

    module _ (calm : IsCalm) where
      head_here : (k : ℕ) → k < length head → HeadAt k
      head_here k less = (let same : 0 + k ≡ k = omega arith in subst HeadAt same (head_at k less))

      head_level : (k : ℕ) → k ≤ length head → f.depth k ≡ 0
      head_level zero most = s.level.0
      head_level (suc k) most =
          let m = head_here k (omega arith) in
          let to_next : 0 + suc k ≡ suc k = omega arith in
          let here : 0 + k ≡ k = omega arith in
          let linear : pos (f.depth (suc k)) ≡ outgoing f k =
          ap (λ (p : ℕ). pos (f.depth p)) (sym to_next) ∙ s.head_linear k (omega arith) ∙ ap (outgoing f) here in
          let out = calm.head_out k (omega arith) (kept k m.instr m.goes m.here m.does) in
          let zero_here : f.depth k ≡ 0 = head_level k (omega arith) in
          same_pos (f.depth (suc k)) 0 (linear ∙ out ∙ ap (λ (d : ℕ). pos d +ℤ pos 0) zero_here)

      zero_depth : (m : ℕ) → IsZero m → f.depth m ≡ 0
      zero_depth m (inl most) = head_level m most
      zero_depth m (inr (inl is)) = ap f.depth is ∙ s.level.1
      zero_depth m (inr (inr is)) = ap f.depth is.0 ∙ s.level.2 is.1

      base_of : (k goal : ℕ) → IsKnown goal → IsBase f k goal
      base_of k goal is = record { position = is.m; inside = is.inside; at = is.at; depth = zero_depth is.m is.zero_there }

      abbrev HeadSoft : Next → Type 0
      HeadSoft = Soft set fits begins shape aiming laws goals IsKnown Nothing near never_near

      head_mild : (k : ℕ) (goes : Next) → GoesOn f k → HeadSoft goes → IsMild f k goes
      head_mild k next.Fall on soft = on
      head_mild k (next.Branch held goal) on soft = (on, base_of k goal soft)
      head_mild k (next.Jump goal) on soft = base_of k goal soft
      head_mild k (next.Call goal link) on soft = absurd soft
      head_mild k (next.JumpTo goal) on soft = soft
      head_mild k (next.CallTo goal link) on soft = soft
      head_mild k next.Return on soft = soft
      head_mild k next.System on soft = soft
      head_mild k next.Stop on soft = soft

      not_call : (goes : Next) → HeadSoft goes → is_call goes ≡ false
      not_call (next.Call goal link) soft = absurd soft
      not_call (next.CallTo goal link) soft = absurd soft
      not_call _ soft = refl

      head_unbroken : (k : ℕ) → k < length head → Unbroken f k
      head_unbroken k less =
          let m = head_here k less in
          let depth : f.depth k ≡ 0 = head_level k (omega arith) in
          let goes = next_is k m.instr m.goes m.here m.does in
          let keeps = kept k m.instr m.goes m.here m.does in
          let no_call : is_call (next_at f k) ≡ false = ap is_call goes ∙ not_call m.goes m.soft in
          let on : GoesOn f k = record { inside = omega (arith, s.goes_on); depth = head_level (suc k) (omega arith) } in
          leveled f k m.goes goes (head_mild k m.goes on m.soft) (record {
            distinct = distinct;
            depth = depth;
            out = calm.head_out k less keeps ∙ ap (λ (d : ℕ). pos d +ℤ pos 0) depth;
            f2 = kept_f2 f k keeps;
            f7 = calm_f7 f k no_call;
            f8 = calm_f8 f k depth (unwritten_is k m.instr m.goes m.here m.does (not_call m.goes m.soft))
                (unstored_is k m.instr m.goes m.here m.does);
          })

      body_level : (k : ℕ) → k < length body → f.depth (block + k) ≡ 0
      body_level zero less = (let none : block + 0 ≡ block = omega arith in ap f.depth none ∙ s.level.1)
      body_level (suc k) less =
          let m = body_at k (omega arith) in
          let out = calm.body_out k (omega arith) (kept (block + k) m.instr m.goes m.here m.does) in
          let zero_here : f.depth (block + k) ≡ 0 = body_level k (omega arith) in
          same_pos (f.depth (block + suc k)) 0
          (s.body_linear k less ∙ out ∙ ap (λ (d : ℕ). pos d +ℤ pos 0) zero_here)

      body_on : (k : ℕ) → suc k < length body → GoesOn f (block + k)
      body_on k less =
          let same : suc (block + k) ≡ block + suc k = omega arith in
          record { inside = omega (arith, within); depth = ap f.depth same ∙ body_level (suc k) less }

      body_unbroken_by : (k : ℕ) → k < length body → (goes : Next) → next_at f (block + k) ≡ goes → IsMild f (block + k) goes
          → breaks_f7 f (block + k) ≡ false
          → ((f.flow (block + k)).stores_link ≡ false → breaks_f8 f (block + k) ≡ false) → Unbroken f (block + k)
      body_unbroken_by k less goes is mild f7 f8 =
          let m = body_at k less in
          let depth = body_level k less in
          let keeps = kept (block + k) m.instr m.goes m.here m.does in
          leveled f (block + k) goes is mild (record {
            distinct = distinct;
            depth = depth;
            out = calm.body_out k less keeps ∙ ap (λ (d : ℕ). pos d +ℤ pos 0) depth;
            f2 = kept_f2 f (block + k) keeps;
            f7 = f7;
            f8 = f8 (unstored_is (block + k) m.instr m.goes m.here m.does);
          })

      calm_by : (k : ℕ) → (less : k < length body) → (goes : Next) → next_at f (block + k) ≡ goes → is_call goes ≡ false
          → IsMild f (block + k) goes → Unbroken f (block + k)
      calm_by k less goes is no_call mild =
          let m = body_at k less in
          let same : m.goes ≡ goes = sym (next_is (block + k) m.instr m.goes m.here m.does) ∙ is in
          let writes = unwritten_is (block + k) m.instr m.goes m.here m.does (ap is_call same ∙ no_call) in
          body_unbroken_by k less goes is mild (calm_f7 f (block + k) (ap is_call is ∙ no_call))
          (λ stores. calm_f8 f (block + k) (body_level k less) writes stores)

      body_unbroken : (k : ℕ) → k < length body → Unbroken f (block + k)
      body_unbroken k less =
          let e = calls_block in
          let few = e.count in
          elim (cases_order k e.before) as (λ _. Unbroken f (block + k)) [
            | inl same ↦
                (let on = body_on k (omega arith) in
                let calls : next_at f (block + k) ≡ next.Call e.routine e.link =
                subst (λ (n : ℕ). next_at f (block + n) ≡ next.Call e.routine e.link) (sym same) e.calls in
                let outside = subst (λ (a : ℕ). is_within f.text a ≡ false) (some_is routine e.routine e.grows) s.routine_outside in
                let n : suc (suc k) ≡ length body = omega arith in
                body_unbroken_by k less (next.Call e.routine e.link) calls (on, outside) (calm.call_f7 k n)
                (calm.call_f8 k n (body_level k less)))
            | inr (inl under) ↦ calm_by k less next.Fall (e.falls k under) refl (body_on k (omega arith))
            | inr (inr over) ↦
                (let same : suc e.before ≡ k = omega arith in
                let jumps : next_at f (block + k) ≡ next.Jump e.entry =
                subst (λ (n : ℕ). next_at f (block + n) ≡ next.Jump e.entry) same e.jumps in
                let entry = some_is (f.at 0) e.entry e.enters in
                calm_by k less (next.Jump e.entry) jumps refl
                (record { position = 0; inside = omega (arith, s.goes_on); at = entry; depth = s.level.0 }))
          ]

      pub guarded : IsGuarded set fits begins shape aiming f block head body
      guarded = record {
        head_clean = λ k rule less few.
            let same : 0 + k ≡ k = omega arith in
            subst (λ (p : ℕ). breaks f p rule ≡ false) (sym same) (unbroken f k (head_unbroken k less) rule);
        head_level = λ k most. (let same : 0 + k ≡ k = omega arith in ap f.depth same ∙ head_level k most);
        body_clean = λ k rule less few. unbroken f (block + k) (body_unbroken k less) rule;
        body_level = body_level;
      }

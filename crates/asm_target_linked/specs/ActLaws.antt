-- The laws of sequences and of the check.
use Rattle.std.specs.Int.{w8, w16}
use Rattle.std.specs.Prelude.{All, FitsSigned, ℤ, pos, ◌-ℤ◌, if◌then◌else◌, nat_le}
use Rattle.std.proofs.Common.{◌≡◌, ℕ, zero, suc, List, [], ◌∷◌, ◌++◌, ◌+◌, ◌<◌, ◌≤◌, ◌&&◌, true, false, Some, None, length, take, refl, sym, ap, ◌∙◌, arith, subst}
use Rattle.std.proofs.lemmas.Bool.Decides.{nat_tests}
use Rattle.std.proofs.lemmas.Int.{ints}
use Rattle.std.proofs.lemmas.List.Elements.{All-nil, All-cons}
use Rattle.std.proofs.lemmas.Option.{some_pair_parts}
use Rattle.std.specs.List.{slice_get}
use Rattle.machine_effect.specs.declared.effect.Access.{Access}
use Rattle.machine_effect.specs.declared.effect.Atom.TheVariants.{Reg}
use Rattle.machine_effect.specs.declared.flow.SpMove.TheVariants.{Keep}
use Rattle.machine_effect.specs.declared.next.Next.TheVariants as next
use Rattle.machine_effect.specs.declared.state.State.{State}
use Rattle.machine_effect.specs.Applies.{address_of}
use Rattle.machine_effect.specs.Flow.{flow_of}
use Rattle.machine_effect.specs.Values.{reg_of}
use Rattle.asm_target.proofs.CheckLaws.{IsGrowthBlock, linked_check}
use Rattle.asm_target.proofs.CheckLemmas.{IsHeadPick, IsMadeSo, branches, goes_on}
use Rattle.asm_target.proofs.GuardLemmas.{GuardLaws, IsBranchPick, IsCallPick, IsJumpPick, IsQuietPick}
use Rattle.asm_target.specs.declared.frame.FrameShape.{FrameShape}
use Rattle.asm_target.specs.declared.refer.Part.TheVariants.{Whole}
use Rattle.asm_target.specs.declared.refer.Picked.{Picked}
use Rattle.asm_target.specs.declared.refer.Refer.{Refer}
use Rattle.asm_target.specs.declared.refer.To.{To}
use Rattle.asm_target.specs.declared.refer.To.TheVariants as to
use Rattle.asm_target.specs.declared.sequence.Sequence.{Sequence}
use Rattle.asm_target.specs.declared.sequence.Sequence.TheVariants as sequence
use Rattle.asm_target.specs.Aiming.{IsPickable}
use Rattle.asm_target.specs.Architecture.{riscv64}
use Rattle.asm_target.specs.FlowFunction.{call_goal, jump_goal}
use Rattle.asm_target.specs.Frames.{IsFrame, greatest_total}
use Rattle.asm_target.specs.References.{IsAround, RefersTo, StaysAround}
use Rattle.asm_target.specs.SequenceLaws.{DoSequences, DoesAs, IsGrowing, IsRestoring, IsSaving, below}
use Rattle.asm_target.specs.Sequences.{count_of}
use Rattle.asm_target.specs.Standing.{KeepsLevel}
use Rattle.asm_target_linked.specs.declared.instr.FrameOp.TheVariants.{Save, Load, Below, Above}
use Rattle.asm_target_linked.specs.declared.instr.Instr.{Instr}
use Rattle.asm_target_linked.specs.declared.instr.Instr.TheVariants.{Plain, Frame, Near, Far}
use Rattle.asm_target_linked.specs.declared.instr.Op.TheVariants.{SaveAt, SetSp, LoadLink, Limit}
use Rattle.asm_target_linked.specs.Instr.{Fits, cond_of, copy_of, eight_at, effect_of, goal_of, linked}
use Rattle.asm_target_linked.specs.Forms.{aiming}
use Rattle.asm_target_linked.specs.FormLaws as forms
use Rattle.asm_target_linked.specs.FrameLaws.{Kind, apart, begins_load, begins_load_long, begins_save, begins_save_long, grow, grows_anywhere, kind_of, load, load_long, none, save, save_long}
use Rattle.asm_target_linked.specs.Frames.{begins, check, enter_long, entering, entry, is_long, is_short, leave_long, plain, goes}
use Rattle.asm_target_linked.specs.Laws as laws
use Rattle.asm_target_linked.specs.RunLaws as runs

-- an item of a list of one, two or three
one_item : (P : ℕ → Instr → Type 0) (a : Instr) → P 0 a → (k : ℕ) (i : Instr) → slice_get (a ∷ []) k ≡ Some i → P k i
one_item P a first zero i is = (let same : a ≡ i = cc in subst (P 0) same first)
one_item P a first (suc k) i is = absurd (cc)

two_items : (P : ℕ → Instr → Type 0) (a b : Instr) → P 0 a → P 1 b → (k : ℕ) (i : Instr) → slice_get (a ∷ b ∷ []) k ≡ Some i → P k i
two_items P a b first second zero i is = (let same : a ≡ i = cc in subst (P 0) same first)
two_items P a b first second (suc zero) i is = (let same : b ≡ i = cc in subst (P 1) same second)
two_items P a b first second (suc (suc k)) i is = absurd (cc)

three_items : (P : ℕ → Instr → Type 0) (a b c : Instr) → P 0 a → P 1 b → P 2 c → (k : ℕ) (i : Instr)
    → slice_get (a ∷ b ∷ c ∷ []) k ≡ Some i → P k i
three_items P a b c first second third zero i is = (let same : a ≡ i = cc in subst (P 0) same first)
three_items P a b c first second third (suc zero) i is = (let same : b ≡ i = cc in subst (P 1) same second)
three_items P a b c first second third (suc (suc zero)) i is = (let same : c ≡ i = cc in subst (P 2) same third)
three_items P a b c first second third (suc (suc (suc k))) i is = absurd (cc)

abbrev falls : ℕ → ℕ → Instr → Type 0
falls pc k i = (effect_of i pc).next ≡ next.Fall

abbrev keeps_below : ℕ → ℕ → ℕ → Instr → Type 0
keeps_below n pc k i = k < n → (flow_of (effect_of i pc) riscv64.shape).sp ≡ Keep

abbrev unwritten : ℕ → ℕ → Instr → Type 0
unwritten pc k i = (flow_of (effect_of i pc) riscv64.shape).writes_link ≡ false

abbrev stores_once : ℕ → ℕ → ℕ → Instr → Type 0
stores_once position pc k i = ¬ (k ≡ position) → (effect_of i pc).store ≡ None

abbrev stores_none : ℕ → ℕ → Instr → Type 0
stores_none pc k i = (effect_of i pc).store ≡ None

abbrev writes_once : ℕ → ℕ → ℕ → Instr → Type 0
writes_once position pc k i = ¬ (k ≡ position) → (flow_of (effect_of i pc) riscv64.shape).writes_link ≡ false

save_acts : (n : ℕ) → n ≤ greatest_total → IsSaving linked riscv64.shape 1 n (Frame Save n ∷ [])
unfolding flow_of
save_acts n most = record {
  falls = λ k pc i is. one_item (falls pc) (Frame Save n) refl k i is;
  keeps = λ k pc i less is. absurd (omega arith);
  unwritten = λ k pc i less is. one_item (unwritten pc) (Frame Save n) refl k i is;
  position = 0;
  saver = Frame Save n;
  inside = refl;
  stores = λ pc. refl;
  once = λ k pc i is away. one_item (stores_once 0 pc) (Frame Save n) (λ other. absurd (other refl)) k i is away;
  place = λ at loaded before between access value fine run is.
      let same = (some_pair_parts (eight_at 2 (pos 0 -ℤ pos n)) access (copy_of (Reg 1)) value is).0 in
      subst (λ (a : Access). address_of between loaded a ≡ below (reg_of before 2) n) same
      (subst (λ (s : State). address_of s loaded (eight_at 2 (pos 0 -ℤ pos n)) ≡ below (reg_of before 2) n) (sym run)
      (runs.below_address (reg_of before 2) n (fine.regs 2) most));
  lowers = λ at before after fine run. (runs.save_run n at before after most fine run).lowers;
  saves = λ at before after fine run. (runs.save_run n at before after most fine run).saves;
}

save_long_acts : (n : ℕ) → n ≤ greatest_total → IsSaving linked riscv64.shape 1 n (enter_long n)
unfolding flow_of
save_long_acts n most = record {
  falls = λ k pc i is. three_items (falls pc) (Frame Below n) (Plain SaveAt) (Plain SetSp) refl refl refl k i is;
  keeps = λ k pc i less is.
      three_items (keeps_below 2 pc) (Frame Below n) (Plain SaveAt) (Plain SetSp) (λ l. refl) (λ l. refl) (λ l. absurd (omega arith))
      k i is less;
  unwritten = λ k pc i less is. three_items (unwritten pc) (Frame Below n) (Plain SaveAt) (Plain SetSp) refl refl refl k i is;
  position = 1;
  saver = Plain SaveAt;
  inside = refl;
  stores = λ pc. refl;
  once = λ k pc i is away.
      three_items (stores_once 1 pc) (Frame Below n) (Plain SaveAt) (Plain SetSp) (λ other. refl) (λ other. absurd (other refl))
      (λ other. refl) k i is away;
  place = λ at loaded before between access value fine run is.
      let same = (some_pair_parts (eight_at 31 (pos 0)) access (copy_of (Reg 1)) value is).0 in
      let p = runs.point_run n (at + 8) before run.0 between most fine run.1 run.2 in
      subst (λ (a : Access). address_of between loaded a ≡ below (reg_of before 2) n) same
      (runs.same_address (reg_of between 31) p.low ∙ p.points);
  lowers = λ at before after fine run. (runs.save_long_run n at before after most fine run).lowers;
  saves = λ at before after fine run. (runs.save_long_run n at before after most fine run).saves;
}

load_acts : (n : ℕ) → IsRestoring linked riscv64.shape 1 n (Frame Load n ∷ [])
unfolding flow_of
load_acts n = record {
  falls = λ k pc i is. one_item (falls pc) (Frame Load n) refl k i is;
  keeps = λ k pc i less is. absurd (omega arith);
  stores_nothing = λ k pc i is. one_item (stores_none pc) (Frame Load n) refl k i is;
  position = 0;
  loader = Frame Load n;
  inside = refl;
  writes = λ pc. refl;
  once = λ k pc i is away. one_item (writes_once 0 pc) (Frame Load n) (λ other. absurd (other refl)) k i is away;
  raises = λ at before after fine run. (runs.load_run n at before after fine run).raises;
  restores = λ at word before after fine run told. (runs.load_run n at before after fine run).restores word told;
}

load_long_acts : (n : ℕ) → IsRestoring linked riscv64.shape 1 n (leave_long n)
unfolding flow_of
load_long_acts n = record {
  falls = λ k pc i is. three_items (falls pc) (Plain LoadLink) (Frame Above n) (Plain SetSp) refl refl refl k i is;
  keeps = λ k pc i less is.
      three_items (keeps_below 2 pc) (Plain LoadLink) (Frame Above n) (Plain SetSp) (λ l. refl) (λ l. refl) (λ l. absurd (omega arith))
      k i is less;
  stores_nothing = λ k pc i is.
      three_items (stores_none pc) (Plain LoadLink) (Frame Above n) (Plain SetSp) refl refl refl k i is;
  position = 0;
  loader = Plain LoadLink;
  inside = refl;
  writes = λ pc. refl;
  once = λ k pc i is away.
      three_items (writes_once 0 pc) (Plain LoadLink) (Frame Above n) (Plain SetSp) (λ other. absurd (other refl)) (λ other. refl)
      (λ other. refl) k i is away;
  raises = λ at before after fine run. (runs.load_long_run n at before after fine run).raises;
  restores = λ at word before after fine run told. (runs.load_long_run n at before after fine run).restores word told;
}

grow_acts : (d e : ℤ) → IsGrowing linked riscv64.shape 1 1 (Far true d ∷ Far false e ∷ [])
unfolding flow_of
grow_acts d e = record {
  most = omega arith;
  keeps = λ k pc i less is.
      two_items (λ k i. (flow_of (effect_of i pc) riscv64.shape).sp ≡ Keep) (Far true d) (Far false e) refl refl k i is;
  stores_nothing = λ k pc i is. two_items (stores_none pc) (Far true d) (Far false e) refl refl k i is;
  falls = λ k pc i is. absurd (cc);
  unwritten = λ k pc i less is. absurd (omega arith);
  calls = λ pc i is unknown. (let same : Far true d ≡ i = cc in absurd (subst (λ (j : Instr). call_goal (effect_of j pc).next ≡ None → ⊥) same (λ never. cc) unknown));
  jumps = λ pc i is unknown. (let same : Far false e ≡ i = cc in absurd (subst (λ (j : Instr). jump_goal (effect_of j pc).next ≡ None → ⊥) same (λ never. cc) unknown));
  hands = λ at before between fine run. ap (λ (s : State). reg_of s 1) run;
}

short_total : (n : ℕ) → is_short n ≡ true → (0 < n) × (n ≤ greatest_total)
short_total n is = (grind (arith, nat_tests), grind (arith, nat_tests))

long_total : (n : ℕ) → is_long n ≡ true → (0 < n) × (n ≤ greatest_total)
long_total n is = (grind (arith, nat_tests), grind (arith, nat_tests))

abbrev Does : Sequence → List Instr → Type 0
Does = DoesAs linked riscv64.shape (Some 1) (Some 1)

does : (code : List Instr) → Kind code → (found : Sequence) × (begins code ≡ found) × Does found (take (count_of found) code)
does code (none is) = (sequence.Plain, is, tt)
does code (save n rest is short) = (
  sequence.Saving 1 n,
  ap begins is ∙ begins_save n rest short,
  subst (λ (c : List Instr). Does (sequence.Saving 1 n) (take 1 c)) (sym is) (short_total n short, save_acts n (short_total n short).1),
)
does code (load n rest is short) = (
  sequence.Restoring 1 n,
  ap begins is ∙ begins_load n rest short,
  subst (λ (c : List Instr). Does (sequence.Restoring 1 n) (take 1 c)) (sym is) (short_total n short, load_acts n),
)
does code (save_long n rest is long) = (
  sequence.Saving 3 n,
  ap begins is ∙ begins_save_long n rest long,
  subst (λ (c : List Instr). Does (sequence.Saving 3 n) (take 3 c)) (sym is) (long_total n long, save_long_acts n (long_total n long).1),
)
does code (load_long n rest is long) = (
  sequence.Restoring 3 n,
  ap begins is ∙ begins_load_long n rest long,
  subst (λ (c : List Instr). Does (sequence.Restoring 3 n) (take 3 c)) (sym is) (long_total n long, load_long_acts n),
)
does code (grow d e rest is) = (
  sequence.Growth 2,
  ap begins is,
  subst (λ (c : List Instr). Does (sequence.Growth 2) (take 2 c)) (sym is) (grow_acts d e),
)

pub acts : DoSequences linked riscv64.shape Fits begins riscv64.growth
acts code fit =
    let d = does code (kind_of code) in
    subst (λ (q : Sequence). Does q (take (count_of q) code)) (sym d.1) d.2

-- the check
guard_laws : GuardLaws linked Fits begins riscv64.shape aiming
guard_laws = record {
  some = λ i fit. (laws.lengths i fit).least;
  only_goes = laws.only_goes;
  links = laws.links;
  formed = forms.formed;
  holds_goals = forms.holds_goals;
  same_lengths = forms.same_lengths;
}

limit_pick : IsQuietPick linked Fits begins riscv64.shape aiming (plain (Plain Limit))
unfolding flow_of
limit_pick = record {
  fit = tt;
  unreferred = refl;
  falls = λ pc. refl;
  keeps = λ pc. refl;
  unwritten = λ pc. refl;
  unstored = λ pc. refl;
  frameless = λ rest. refl;
}

near_fit : FitsSigned w8 (pos 0)
near_fit = omega (arith, ints)

far_fit : FitsSigned w16 (pos 0)
far_fit = omega (arith, ints)

past_pick : IsBranchPick linked Fits begins riscv64.shape aiming to.Past (goes (Near false (pos 0)) to.Past)
past_pick = record {
  goes = record { fit = near_fit; referred = refl };
  branches = λ pc. (cond_of false, goal_of pc (pos 0), refl);
}

grow_pick : IsCallPick linked Fits begins riscv64.shape aiming to.Grow (goes (Far true (pos 0)) to.Grow)
grow_pick = record {
  goes = record { fit = far_fit; referred = refl };
  calls = λ pc. (goal_of pc (pos 0), Some 5, refl);
}

entry_pick : IsJumpPick linked Fits begins riscv64.shape aiming to.Entry (goes (Far false (pos 0)) to.Entry)
entry_pick = record {
  goes = record { fit = far_fit; referred = refl };
  jumps = λ pc. (goal_of pc (pos 0), refl);
}

abbrev HeadPick : Picked Instr → Type 0
HeadPick = IsHeadPick linked Fits begins riscv64.shape aiming true

made : (frame : FrameShape) → IsMadeSo linked Fits begins riscv64.shape aiming (check frame)
made frame = record {
  head = All-cons HeadPick (plain (Plain Limit)) (goes (Near false (pos 0)) to.Past ∷ []) (goes_on limit_pick)
      (All-cons HeadPick (goes (Near false (pos 0)) to.Past) [] (branches to.Past refl past_pick) (All-nil HeadPick));
  block = (grow_pick, entry_pick);
}

abbrev Single : Picked Instr → Type 0
Single pick = (form : ℕ) → form ≤ 1 → aiming.forms pick.instr form ≡ pick.instr ∷ []

grows_so : (frame : FrameShape) → IsGrowthBlock linked Fits begins riscv64.shape aiming (check frame)
grows_so frame = record {
  single = All-cons Single (goes (Far true (pos 0)) to.Grow) (goes (Far false (pos 0)) to.Entry ∷ []) (λ form least. refl)
      (All-cons Single (goes (Far false (pos 0)) to.Entry) [] (λ form least. refl) (All-nil Single));
  grows = refl;
}

pub checks : (frame : FrameShape) → IsFrame 243 frame → KeepsLevel linked Fits begins riscv64.shape aiming (check frame)
checks frame is =
    linked_check linked Fits begins riscv64.shape aiming guard_laws refl apart riscv64.growth acts grows_anywhere (check frame) (made frame)
    (grows_so frame)

abbrev Pickable : Picked Instr → Type 0
Pickable = IsPickable Fits aiming

pub check_pickable : (frame : FrameShape) → IsFrame 243 frame → All Pickable (check frame).head × All Pickable (check frame).block
check_pickable frame is = (
  All-cons Pickable (plain (Plain Limit)) (goes (Near false (pos 0)) to.Past ∷ []) (record { fit = tt; directed = λ to refers. absurd (cc) })
      (All-cons Pickable (goes (Near false (pos 0)) to.Past) [] (record { fit = near_fit; directed = λ to refers. refl }) (All-nil Pickable)),
  All-cons Pickable (goes (Far true (pos 0)) to.Grow) (goes (Far false (pos 0)) to.Entry ∷ [])
      (record { fit = far_fit; directed = λ to refers. refl })
      (All-cons Pickable (goes (Far false (pos 0)) to.Entry) [] (record { fit = far_fit; directed = λ to refers. refl }) (All-nil Pickable)),
)

few_entering : (n : ℕ) → length (entering n) ≤ 3
few_entering zero = omega arith
few_entering (suc m) =
    elim (nat_le (suc m) 240) as (λ b. length (if b then Frame Save (suc m) ∷ [] else enter_long (suc m)) ≤ 3) [
      | true ↦ omega arith
      | false ↦ omega arith
    ]

pub few_instructions : (frame : FrameShape) → IsFrame 243 frame
    → length (check frame).head + length (check frame).block + length (entry frame) ≤ 14
few_instructions frame is = omega (arith, few_entering frame.total)

-- what enters a frame is listed
pub enters_listed : (frame : FrameShape) → IsFrame 243 frame → All Fits (entry frame)
enters_listed frame is = by frame.total is.most
  where
    by : (n : ℕ) → n ≤ greatest_total → All Fits (entering n)
    by zero most = All-nil Fits
    by (suc m) most =
        elim (nat_le (suc m) 240) as (λ b. All Fits (if b then Frame Save (suc m) ∷ [] else enter_long (suc m))) [
          | true ↦ All-cons Fits (Frame Save (suc m)) [] (omega arith) (All-nil Fits)
          | false ↦ All-cons Fits (Frame Below (suc m)) (Plain SaveAt ∷ Plain SetSp ∷ []) (omega arith)
              (All-cons Fits (Plain SaveAt) (Plain SetSp ∷ []) tt (All-cons Fits (Plain SetSp) [] tt (All-nil Fits)))
        ]

-- a check goes past its block, and the block to the routine and to the function's entry
pub stays_around : (frame : FrameShape) → StaysAround (check frame)
stays_around frame =
    let Around : Picked Instr → Type 0 = RefersTo (IsAround true) in
    record {
      head = All-cons Around (plain (Plain Limit)) (goes (Near false (pos 0)) to.Past ∷ []) (λ refer is. absurd (cc))
          (All-cons Around (goes (Near false (pos 0)) to.Past) [] (goes_around (Near false (pos 0)) to.Past refl) (All-nil Around));
      block = All-cons Around (goes (Far true (pos 0)) to.Grow) (goes (Far false (pos 0)) to.Entry ∷ [])
          (goes_around (Far true (pos 0)) to.Grow tt)
          (All-cons Around (goes (Far false (pos 0)) to.Entry) [] (goes_around (Far false (pos 0)) to.Entry tt) (All-nil Around));
      some = omega arith;
    }
  where
    goes_around : (i : Instr) (goal : To) → IsAround true goal → RefersTo (IsAround true) (goes i goal)
    goes_around i goal around refer is =
        let same : record { to = goal; part = Whole } ≡ refer = cc in
        subst (λ (r : Refer). IsAround true r.to) same around

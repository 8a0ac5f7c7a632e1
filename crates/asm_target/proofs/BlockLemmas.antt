-- How the block of a check ends: with a call of the routine that grows the stack and a jump to the function's entry.
use Rattle.std.proofs.Common.{◌≡◌, ℕ, zero, suc, List, [], ◌∷◌, ◌++◌, ◌+◌, ◌<◌, ◌≤◌, Option, Some, None, length, drop, refl, sym, ap, ◌∙◌, subst, arith, append_assoc}
use Rattle.std.proofs.lemmas.List.{length-append}
use Rattle.std.proofs.lemmas.List.Elements.{All-cons, All-nil, All-head, All-tail}
use Rattle.std.specs.List.{slice_get}
use Rattle.std.specs.Prelude.{All, ◌^◌}
use Rattle.machine_effect.specs.declared.flow.Shape.{Shape}
use Rattle.machine_effect.specs.declared.next.Next.{Next}
use Rattle.machine_effect.specs.declared.next.Next.TheVariants as next
use Rattle.asm_target.specs.declared.refer.Part.TheVariants.{Whole}
use Rattle.asm_target.specs.declared.refer.Picked.{Picked}
use Rattle.asm_target.specs.declared.refer.Refer.{Refer}
use Rattle.asm_target.specs.declared.refer.To.{To}
use Rattle.asm_target.specs.declared.refer.To.TheVariants as to
use Rattle.asm_target.specs.declared.sequence.Sequence.{Sequence}
use Rattle.asm_target.specs.Aiming.{Aiming, IsAimedForm, IsPlaced, JumpsAs, bytes_of, with_goal}
use Rattle.asm_target.specs.FlowFunction.{FlowFunction, jump_goal, next_at}
use Rattle.asm_target.specs.InstructionSet.{InstructionSet}
use Rattle.asm_target.specs.Standing.{HasCode}
use Rattle.asm_target.proofs.FrameLemmas.{flow_next}
use Rattle.asm_target.proofs.GuardLemmas.{GuardLaws, IsCallPick, IsJumpPick, IsMildPick, IsQuietPick, aimed_next, alone, call, jump, quiet, quiet_code}
use Rattle.asm_target.proofs.LevelLemmas.{behind, place_behind}
use Rattle.asm_target.proofs.PlaceLemmas.{instr_here}

module _ {Instr : Type 0} (set : InstructionSet Instr) (fits : Instr → Type 0) (begins : List Instr → Sequence) (shape : Shape) (aiming : Aiming Instr) where
  -- instructions that go on behind themselves, and then the call and the jump
  abbrev pub IsBlock : List (Picked Instr) → Type 0
  IsBlock [] = ⊥
  IsBlock (one ∷ []) = ⊥
  IsBlock (first ∷ second ∷ []) =
      IsCallPick set fits begins shape aiming to.Grow first × IsJumpPick set fits begins shape aiming to.Entry second
  IsBlock (one ∷ first ∷ second ∷ picks) =
      IsQuietPick set fits begins shape aiming one × IsBlock (first ∷ second ∷ picks)

  module _ (laws : GuardLaws set fits begins shape aiming) (goal_of : To → Option ℕ) where
    -- an instruction that is the whole of some code, and where it goes
    record IsSole (to : To) (goes : ℕ → Next) (place : ℕ) (code : List Instr) : Type 0 where
      pub instr : Instr
      pub goal : ℕ
      pub told : goal_of to ≡ Some goal
      pub code_is : code ≡ instr ∷ []
      pub next : (set.effect instr place).next ≡ goes goal

    sole : (to : To) (i : Instr) (refer : Option Refer) (goes : ℕ → Next) (place : ℕ) (code : List Instr)
        → ((goal : ℕ) → goal_of to ≡ Some goal → goal < 2 ^ 64) → place < 2 ^ 64 → fits i
        → refer ≡ Some (record { to = to; part = Whole }) → ((goal : ℕ) → with_goal goal (goes 0) ≡ goes goal)
        → with_goal 0 (set.effect i place).next ≡ with_goal 0 (goes 0)
        → IsAimedForm set fits aiming goal_of refer place (i ∷ []) code → IsSole to goes place code
    sole to i refer goes place code near low fit referred with_goals same aimed =
        let a = subst (λ (refer : Option Refer). IsAimedForm set fits aiming goal_of refer place (i ∷ []) code) referred aimed in
        record {
          instr = a.0;
          goal = a.1.0;
          told = a.1.1;
          code_is = a.2;
          next = aimed_next set fits begins shape aiming laws i a.0 place a.1.0 (goes 0) fit low (near a.1.0 a.1.1) a.1.2 same
              ∙ with_goals a.1.0;
        }

    jump_sole : (to : To) (refer : Option Refer) (place goal : ℕ) (form code : List Instr)
        → ((goal : ℕ) → goal_of to ≡ Some goal → goal < 2 ^ 64) → place < 2 ^ 64
        → refer ≡ Some (record { to = to; part = Whole }) → All fits form → JumpsAs set fits aiming (next.Jump goal) form
        → IsAimedForm set fits aiming goal_of refer place form code → IsSole to (λ goal. next.Jump goal) place code
    jump_sole to refer place goal [] code near low referred fit jumps aimed = absurd jumps
    jump_sole to refer place goal (i ∷ []) code near low referred fit jumps aimed =
        sole to i refer (λ goal. next.Jump goal) place code near low (All-head fits i [] fit) referred (λ goal. refl) (jumps place low) aimed
    jump_sole to refer place goal (i ∷ j ∷ []) code near low referred fit jumps aimed = absurd jumps
    jump_sole to refer place goal (i ∷ j ∷ k ∷ form) code near low referred fit jumps aimed = absurd jumps

    jump_code : (to : To) (pick : Picked Instr) (form place : ℕ) (code : List Instr)
        → ((goal : ℕ) → goal_of to ≡ Some goal → goal < 2 ^ 64) → place < 2 ^ 64 → form ≤ 1
        → IsJumpPick set fits begins shape aiming to pick
        → IsAimedForm set fits aiming goal_of pick.refer place (aiming.forms pick.instr form) code
        → IsSole to (λ goal. next.Jump goal) place code
    jump_code to pick form place code near low least is aimed =
        let j = is.jumps place in
        let formed = laws.formed pick.instr is.goes.fit in
        let goal : jump_goal (set.effect pick.instr place).next ≡ Some j.0 = ap jump_goal j.1 in
        let jumps : JumpsAs set fits aiming (next.Jump j.0) (aiming.forms pick.instr form) =
        subst (λ (goes : Next). JumpsAs set fits aiming goes (aiming.forms pick.instr form)) j.1
        (formed.jumps form place j.0 least low goal) in
        jump_sole to pick.refer place j.0 (aiming.forms pick.instr form) code near low is.goes.referred (formed.fit form least) jumps aimed

    call_code : (to : To) (pick : Picked Instr) (form place : ℕ) (code : List Instr)
        → ((goal : ℕ) → goal_of to ≡ Some goal → goal < 2 ^ 64) → place < 2 ^ 64 → form ≤ 1
        → (is : IsCallPick set fits begins shape aiming to pick)
        → IsAimedForm set fits aiming goal_of pick.refer place (aiming.forms pick.instr form) code
        → IsSole to (λ goal. next.Call goal (is.calls place).1) place code
    call_code to pick form place code near low least is aimed =
        let c = is.calls place in
        let no_jump : jump_goal (set.effect pick.instr place).next ≡ None = ap jump_goal c.2 in
        let itself = alone set fits begins shape aiming laws pick.instr form place is.goes.fit least low no_jump in
        let same = subst (λ (form : List Instr). IsAimedForm set fits aiming goal_of pick.refer place form code) itself aimed in
        sole to pick.instr pick.refer (λ goal. next.Call goal c.1) place code near low is.goes.fit is.goes.referred (λ goal. refl)
        (ap (with_goal 0) c.2) same

    module _ (f : FlowFunction) (all : List Instr) (has : HasCode set fits begins shape f all)
        (near_entry : (goal : ℕ) → goal_of to.Entry ≡ Some goal → goal < 2 ^ 64)
        (near_grow : (goal : ℕ) → goal_of to.Grow ≡ Some goal → goal < 2 ^ 64) where
      -- the last two of some instructions call and jump
      pub record EndsSo (at : ℕ) (code : List Instr) : Type 0 where
        pub before : ℕ
        pub count : length code ≡ suc (suc before)
        pub falls : (k : ℕ) → k < before → next_at f (at + k) ≡ next.Fall
        pub routine : ℕ
        pub link : Option ℕ
        pub grows : goal_of to.Grow ≡ Some routine
        pub calls : next_at f (at + before) ≡ next.Call routine link
        pub entry : ℕ
        pub enters : goal_of to.Entry ≡ Some entry
        pub jumps : next_at f (at + suc before) ≡ next.Jump entry

      -- where the instruction at a position goes
      goes_at : (p : ℕ) (i : Instr) (place : ℕ) (goes : Next) → slice_get all p ≡ Some i → f.at p ≡ place
          → (set.effect i place).next ≡ goes → next_at f p ≡ goes
      goes_at p i place goes here same is =
          ap (λ flow. flow.next) (has.flow p i here) ∙ flow_next (set.effect i (f.at p)) shape
          ∙ ap (λ (place : ℕ). (set.effect i place).next) same ∙ is

      last_two : (first second : Picked Instr) (code rest : List Instr) (at : ℕ) → IsBlock (first ∷ second ∷ [])
          → IsPlaced set fits aiming goal_of (f.at at) (first ∷ second ∷ []) code → drop at all ≡ code ++ rest
          → at < f.count → at + length code ≤ f.count → suc at < f.count → EndsSo at code
      last_two first second code rest at is placed here some inside more =
          let front : List Instr = placed.1 in
          let back : List Instr = placed.2 in
          let c = call_code to.Grow first placed.0 (f.at at) front near_grow (has.addresses at some) placed.3 is.0 placed.4 in
          let there : drop at all ≡ front ++ (back ++ rest) =
          here ∙ ap (λ (xs : List Instr). xs ++ rest) placed.6 ∙ append_assoc front back rest in
          let one : length front ≡ 1 = ap length c.code_is in
          let place = place_behind set fits begins shape aiming f all has front (back ++ rest) at there (omega arith) in
          let step : at + length front ≡ suc at = omega arith in
          let low : f.at (at + length front) < 2 ^ 64 = has.addresses (at + length front) (omega arith) in
          let last = placed.5 in
          let again = subst (λ (place : ℕ). IsAimedForm set fits aiming goal_of second.refer place (aiming.forms second.instr last.0) last.1)
          (sym place) last.4 in
          let j = jump_code to.Entry second last.0 (f.at (at + length front)) last.1 near_entry low last.3 is.1 again in
          let back_is : back ≡ j.instr ∷ [] = last.6 ∙ ap (λ (xs : List Instr). last.1 ++ xs) last.5 ∙ ap (λ (xs : List Instr). xs ++ []) j.code_is in
          let there_too : drop (at + length front) all ≡ back ++ rest =
          behind set fits begins shape aiming all front (back ++ rest) at there in
          let two : length code ≡ 2 = ap length placed.6 ∙ length-append front back ∙ omega (arith, one, ap length back_is) in
          let none : at + 0 ≡ at = omega arith in
          let after : at + length front + 0 ≡ at + 1 = omega arith in
          let plain : at + length front ≡ at + 1 = omega arith in
          record {
            before = 0;
            count = two;
            falls = λ k less. absurd (omega arith);
            routine = c.goal;
            link = (is.0.calls (f.at at)).1;
            grows = c.told;
            calls = goes_at (at + 0) c.instr (f.at at) (next.Call c.goal (is.0.calls (f.at at)).1)
                (instr_here set fits begins shape all front (back ++ rest) at 0 c.instr there (ap (λ (xs : List Instr). slice_get xs 0) c.code_is))
                (ap f.at none) c.next;
            entry = j.goal;
            enters = j.told;
            jumps = goes_at (at + 1) j.instr (f.at (at + length front)) (next.Jump j.goal)
                (ap (slice_get all) (sym after)
                ∙ instr_here set fits begins shape all back rest (at + length front) 0 j.instr there_too
                (ap (λ (xs : List Instr). slice_get xs 0) back_is))
                (ap f.at (sym plain)) j.next;
          }

      pub ends_so : (picks : List (Picked Instr)) (code rest : List Instr) (at : ℕ) → IsBlock picks
          → IsPlaced set fits aiming goal_of (f.at at) picks code → drop at all ≡ code ++ rest
          → at + length code ≤ f.count → at + length picks ≤ f.count → EndsSo at code
      ends_so [] code rest at is placed here inside more = absurd is
      ends_so (one ∷ []) code rest at is placed here inside more = absurd is
      ends_so (first ∷ second ∷ []) code rest at is placed here inside more =
          last_two first second code rest at is placed here (omega arith) inside (omega arith)
      ends_so (one ∷ first ∷ second ∷ picks) code rest at is placed here inside more =
          let front : List Instr = placed.1 in
          let back : List Instr = placed.2 in
          let itself = quiet_code set fits begins shape aiming laws goal_of one placed.0 (f.at at) front is.0 placed.3 placed.4 in
          let there : drop at all ≡ front ++ (back ++ rest) =
          here ∙ ap (λ (xs : List Instr). xs ++ rest) placed.6 ∙ append_assoc front back rest in
          let single : length front ≡ 1 = ap length itself in
          let lengths : length code ≡ length front + length back = ap length placed.6 ∙ length-append front back in
          let place = place_behind set fits begins shape aiming f all has front (back ++ rest) at there (omega arith) in
          let again : IsPlaced set fits aiming goal_of (f.at (at + length front)) (first ∷ second ∷ picks) back =
          subst (λ (place : ℕ). IsPlaced set fits aiming goal_of place (first ∷ second ∷ picks) back) (sym place) placed.5 in
          let there_too : drop (at + length front) all ≡ back ++ rest =
          behind set fits begins shape aiming all front (back ++ rest) at there in
          let e = ends_so (first ∷ second ∷ picks) back rest (at + length front) is.1 again there_too (omega arith) (omega arith) in
          let second_last : at + length front + e.before ≡ at + suc e.before = omega arith in
          let last : at + length front + suc e.before ≡ at + suc (suc e.before) = omega arith in
          record {
            before = suc e.before;
            count = omega (arith, e.count);
            falls = elim [
              | zero ↦ (λ less.
                  let none : at + 0 ≡ at = omega arith in
                  goes_at (at + 0) one.instr (f.at at) next.Fall
                  (instr_here set fits begins shape all front (back ++ rest) at 0 one.instr there
                  (ap (λ (xs : List Instr). slice_get xs 0) itself))
                  (ap f.at none) (is.0.falls (f.at at)))
              | suc k ↦ (λ less.
                  let same : at + length front + k ≡ at + suc k = omega arith in
                  subst (λ (p : ℕ). next_at f p ≡ next.Fall) same (e.falls k (omega arith)))
            ];
            routine = e.routine;
            link = e.link;
            grows = e.grows;
            calls = subst (λ (p : ℕ). next_at f p ≡ next.Call e.routine e.link) second_last e.calls;
            entry = e.entry;
            enters = e.enters;
            jumps = subst (λ (p : ℕ). next_at f p ≡ next.Jump e.entry) last e.jumps;
          }

    -- picked instructions of a block are mild
    module _ (There Called : ℕ → Type 0) (near : (goal : ℕ) → There goal → goal < 2 ^ 64)
        (near_called : (goal : ℕ) → Called goal → goal < 2 ^ 64) where
      abbrev Mild : Picked Instr → Type 0
      Mild = IsMildPick set fits begins shape aiming laws goal_of There Called near near_called ⊥

      pub block_mild : (picks : List (Picked Instr)) → IsBlock picks
          → ((goal : ℕ) → goal_of to.Entry ≡ Some goal → There goal) → ((goal : ℕ) → goal_of to.Grow ≡ Some goal → Called goal)
          → All Mild picks
      block_mild [] is enters grows = absurd is
      block_mild (one ∷ []) is enters grows = absurd is
      block_mild (first ∷ second ∷ []) is enters grows =
          All-cons Mild first (second ∷ []) (call to.Grow grows is.0)
          (All-cons Mild second [] (jump to.Entry enters is.1) (All-nil Mild))
      block_mild (one ∷ first ∷ second ∷ picks) is enters grows =
          All-cons Mild one (first ∷ second ∷ picks) (quiet is.0) (block_mild (first ∷ second ∷ picks) is.1 enters grows)

  -- a block has code for each pick
  filled : (refer : Option Refer) (goal_of : To → Option ℕ) (place : ℕ) (form code : List Instr) → 0 < length form
      → IsAimedForm set fits aiming goal_of refer place form code → 0 < length code
  filled refer goal_of place [] code some aimed = absurd (omega arith)
  filled refer goal_of place (i ∷ []) code some aimed = omega (arith, ap length aimed.2)
  filled refer goal_of place (i ∷ k ∷ form) code some aimed = omega (arith, ap length aimed.2)

  some_form : GuardLaws set fits begins shape aiming → (i : Instr) (form : ℕ) → fits i → form ≤ 1 → 0 < length (aiming.forms i form)
  some_form laws i zero fit least = (let s = (laws.formed i fit).short in omega (arith, ap length s.1))
  some_form laws i (suc zero) fit least =
      (let l = (laws.formed i fit).long in omega (arith, ap length l.2, length-append l.0 (l.1 ∷ [])))
  some_form laws i (suc (suc form)) fit least = absurd (omega arith)

  abbrev pub AllFit : List (Picked Instr) → Type 0
  AllFit picks = All (λ pick. fits pick.instr) picks

  pub as_many : GuardLaws set fits begins shape aiming → (goal_of : To → Option ℕ) (place : ℕ) (picks : List (Picked Instr)) (code : List Instr)
      → AllFit picks → IsPlaced set fits aiming goal_of place picks code → length picks ≤ length code
  as_many laws goal_of place [] code fit placed = omega arith
  as_many laws goal_of place (pick ∷ picks) code fit placed =
      let front = filled pick.refer goal_of place (aiming.forms pick.instr placed.0) placed.1
      (some_form laws pick.instr placed.0 (All-head (λ pick. fits pick.instr) pick picks fit) placed.3) placed.4 in
      let back = as_many laws goal_of (place + bytes_of set placed.1) picks placed.2 (All-tail (λ pick. fits pick.instr) pick picks fit) placed.5 in
      omega (arith, ap length placed.6, length-append placed.1 placed.2)

  pub block_fits : (picks : List (Picked Instr)) → IsBlock picks → AllFit picks
  block_fits [] is = absurd is
  block_fits (one ∷ []) is = absurd is
  block_fits (first ∷ second ∷ []) is =
      All-cons (λ pick. fits pick.instr) first (second ∷ []) is.0.goes.fit
      (All-cons (λ pick. fits pick.instr) second [] is.1.goes.fit (All-nil (λ pick. fits pick.instr)))
  block_fits (one ∷ first ∷ second ∷ picks) is =
      All-cons (λ pick. fits pick.instr) one (first ∷ second ∷ picks) is.0.fit (block_fits (first ∷ second ∷ picks) is.1)

  pub block_some : (picks : List (Picked Instr)) → IsBlock picks → 2 ≤ length picks
  block_some [] is = absurd is
  block_some (one ∷ []) is = absurd is
  block_some (first ∷ second ∷ picks) is = omega arith

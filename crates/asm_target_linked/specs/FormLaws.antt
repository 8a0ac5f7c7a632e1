-- The laws of forms and of aiming.
use Rattle.std.specs.Int.{w8, w16}
use Rattle.std.specs.Prelude.{All, FitsSigned, ℤ, pos, negsuc, ◌-ℤ◌, ◌≤ℤ◌, Bool}
use Rattle.std.proofs.Common.{◌≡◌, ◌↔◌, ℕ, zero, suc, List, [], ◌∷◌, ◌++◌, ◌+◌, ◌-◌, ◌%◌, ◌^◌, ◌<◌, ◌≤◌, true, false, not, Some, length, refl, sym, ap, ◌∙◌, arith, subst}
use Rattle.std.proofs.lemmas.Int.{ints}
use Rattle.std.proofs.lemmas.List.Elements.{All-nil, All-cons}
use Rattle.machine_effect.specs.declared.next.Next.TheVariants as next
use Rattle.machine_effect.specs.Flow.{flow_of}
use Rattle.machine_effect.specs.Values.{holds_by}
use Rattle.asm_target.specs.Architecture.{riscv64}
use Rattle.asm_target.specs.declared.refer.Part.TheVariants.{Whole}
use Rattle.asm_target.specs.Aiming.{Aims, AreOpposite, AreSteady, HasForms, HasReach, HaveForms, HaveReach, HoldGoals, JumpsAs, KeepLengths, bytes_of, with_goal}
use Rattle.asm_target.specs.FlowFunction.{jump_goal, call_goal}
use Rattle.asm_target_linked.specs.declared.instr.FrameOp.{FrameOp}
use Rattle.asm_target_linked.specs.declared.instr.Op.{Op}
use Rattle.asm_target_linked.specs.declared.instr.FrameOp.TheVariants.{Save, Load, Below, Above}
use Rattle.asm_target_linked.specs.declared.instr.Instr.{Instr}
use Rattle.asm_target_linked.specs.declared.instr.Instr.TheVariants.{Plain, Frame, Near, Far}
use Rattle.asm_target_linked.specs.declared.instr.Op.TheVariants.{Nop, SaveAt, SetSp, LoadLink, Limit, Return}
use Rattle.asm_target_linked.specs.Instr.{Fits, cond_of, effect_of, goal_of, linked, spelling_of}
use Rattle.asm_target_linked.specs.Forms.{aiming, is_directed, undirected}

one_fit : (i : Instr) → Fits i → All Fits (i ∷ [])
one_fit i fit = All-cons Fits i [] fit (All-nil Fits)

widened : (d : ℤ) → FitsSigned w8 d → FitsSigned w16 d
widened (pos n) fit = omega (arith, ints)
widened (negsuc n) fit = omega (arith, ints)

not_not : (b : Bool) → b ≡ not (not b)
not_not true = refl
not_not false = refl

opposite : (held : Bool) → AreOpposite (cond_of (not held)) (cond_of held)
unfolding holds_by
opposite true state loaded = refl
opposite false state loaded = not_not _

-- an instruction whose forms are itself
itself : (i : Instr) → Fits i → ((form : ℕ) → aiming.forms i form ≡ i ∷ [])
    → ((pc goal : ℕ) → jump_goal (effect_of i pc).next ≡ Some goal → (at : ℕ) → with_goal 0 (effect_of i at).next ≡ with_goal 0 (effect_of i pc).next)
    → HasForms linked Fits aiming i
itself i fit same steady = record {
  fit = λ form least. subst (All Fits) (sym (same form)) (one_fit i fit);
  short = (i, same 0, refl);
  long = ([], i, same 1, refl);
  longer = (let equal : aiming.forms i 0 ≡ aiming.forms i 1 = same 0 ∙ sym (same 1) in omega (arith, ap (λ (code : List Instr). bytes_of linked code) equal));
  alone = λ form pc least low none. same form;
  jumps = λ form pc goal least low jumps.
      subst (λ (code : List Instr). JumpsAs linked Fits aiming (effect_of i pc).next code) (sym (same form))
      (λ at near. steady pc goal jumps at);
}

near_forms : (held : Bool) (d : ℤ) → Fits (Near held d) → HasForms linked Fits aiming (Near held d)
near_forms held d fit = record {
  fit = elim [
    | zero ↦ (λ least. one_fit (Near held d) fit)
    | suc form ↦ (λ least.
        All-cons Fits (Near (not held) (pos 12)) (Far false d ∷ []) (omega (arith, ints)) (one_fit (Far false d) (widened d fit)))
  ];
  short = (Near held d, refl, refl);
  long = (Near (not held) (pos 12) ∷ [], Far false d, refl, refl);
  longer = omega arith;
  alone = λ form pc least low none. absurd (cc);
  jumps = elim [
    | zero ↦ (λ pc goal least low jumps. (λ at near. refl))
    | suc form ↦ (λ pc goal least low jumps. record {
      opposite = cond_of (not held);
      opposed = opposite held;
      over = λ at near. refl;
      jumps = λ at near. refl;
    })
  ];
}

pub formed : HaveForms linked Fits aiming
formed (Plain Nop) fit = itself (Plain Nop) fit (λ form. refl) (λ pc goal jumps at. refl)
formed (Plain SaveAt) fit = itself (Plain SaveAt) fit (λ form. refl) (λ pc goal jumps at. refl)
formed (Plain SetSp) fit = itself (Plain SetSp) fit (λ form. refl) (λ pc goal jumps at. refl)
formed (Plain LoadLink) fit = itself (Plain LoadLink) fit (λ form. refl) (λ pc goal jumps at. refl)
formed (Plain Limit) fit = itself (Plain Limit) fit (λ form. refl) (λ pc goal jumps at. refl)
formed (Plain Return) fit = itself (Plain Return) fit (λ form. refl) (λ pc goal jumps at. refl)
formed (Frame op bytes) fit = itself (Frame op bytes) fit (λ form. refl) (λ pc goal jumps at. refl)
formed (Near held d) fit = near_forms held d fit
formed (Far true d) fit = itself (Far true d) fit (λ form. refl) (λ pc goal jumps at. refl)
formed (Far false d) fit = itself (Far false d) fit (λ form. refl) (λ pc goal jumps at. refl)

same_length : (i : Instr) → length (spelling_of i) ≡ length (spelling_of (undirected i))
same_length (Plain op) = refl
same_length (Frame op bytes) = refl
same_length (Near held d) = refl
same_length (Far call d) = refl

pub same_lengths : KeepLengths linked Fits aiming
same_lengths i j fi fj same = same_length i ∙ ap (λ (k : Instr). length (spelling_of k)) same ∙ sym (same_length j)

jump_held : (i : Instr) (pc goal : ℕ) → jump_goal (effect_of i pc).next ≡ Some goal
    → (aiming.held i Whole pc ≡ Some goal) × (aiming.is_directed i ≡ true)
jump_held (Plain Nop) pc goal is = absurd (cc)
jump_held (Plain SaveAt) pc goal is = absurd (cc)
jump_held (Plain SetSp) pc goal is = absurd (cc)
jump_held (Plain LoadLink) pc goal is = absurd (cc)
jump_held (Plain Limit) pc goal is = absurd (cc)
jump_held (Plain Return) pc goal is = absurd (cc)
jump_held (Frame Save bytes) pc goal is = absurd (cc)
jump_held (Frame Load bytes) pc goal is = absurd (cc)
jump_held (Frame Below bytes) pc goal is = absurd (cc)
jump_held (Frame Above bytes) pc goal is = absurd (cc)
jump_held (Near held d) pc goal is = (is, refl)
jump_held (Far true d) pc goal is = absurd (cc)
jump_held (Far false d) pc goal is = (is, refl)

call_held : (i : Instr) (pc goal : ℕ) → call_goal (effect_of i pc).next ≡ Some goal
    → (aiming.held i Whole pc ≡ Some goal) × (aiming.is_directed i ≡ true)
call_held (Plain Nop) pc goal is = absurd (cc)
call_held (Plain SaveAt) pc goal is = absurd (cc)
call_held (Plain SetSp) pc goal is = absurd (cc)
call_held (Plain LoadLink) pc goal is = absurd (cc)
call_held (Plain Limit) pc goal is = absurd (cc)
call_held (Plain Return) pc goal is = absurd (cc)
call_held (Frame Save bytes) pc goal is = absurd (cc)
call_held (Frame Load bytes) pc goal is = absurd (cc)
call_held (Frame Below bytes) pc goal is = absurd (cc)
call_held (Frame Above bytes) pc goal is = absurd (cc)
call_held (Near held d) pc goal is = absurd (cc)
call_held (Far true d) pc goal is = (is, refl)
call_held (Far false d) pc goal is = absurd (cc)

some_same : (a b : ℕ) → Some a ≡ Some b → a ≡ b
some_same a b same = cc

-- an aimed instruction is of the same kind
aimed_near : (held : Bool) (d : ℤ) (j : Instr) → undirected j ≡ undirected (Near held d) → (e : ℤ) × (j ≡ Near held e)
aimed_near held d (Near other e) same = (let equal : other ≡ held = cc in (e, ap (λ (b : Bool). Near b e) equal))
aimed_near held d (Far call e) same = absurd (cc)
aimed_near held d (Plain op) same = absurd (cc)
aimed_near held d (Frame op bytes) same = absurd (cc)

pub aimed_far : (call : Bool) (d : ℤ) (j : Instr) → undirected j ≡ undirected (Far call d) → (e : ℤ) × (j ≡ Far call e)
aimed_far call d (Far other e) same = (let equal : other ≡ call = cc in (e, ap (λ (b : Bool). Far b e) equal))
aimed_far call d (Near held e) same = absurd (cc)
aimed_far call d (Plain op) same = absurd (cc)
aimed_far call d (Frame op bytes) same = absurd (cc)

plain_unheld : (op : Op) (j : Instr) (place goal : ℕ) → undirected j ≡ Plain op → aiming.held j Whole place ≡ Some goal → ⊥
plain_unheld op (Near held e) place goal same aimed = cc
plain_unheld op (Far call e) place goal same aimed = cc
plain_unheld op (Plain other) place goal same aimed = cc
plain_unheld op (Frame other bytes) place goal same aimed = cc

frame_unheld : (op : FrameOp) (bytes : ℕ) (j : Instr) (place goal : ℕ) → undirected j ≡ Frame op bytes
    → aiming.held j Whole place ≡ Some goal → ⊥
frame_unheld op bytes (Near held e) place goal same aimed = cc
frame_unheld op bytes (Far call e) place goal same aimed = cc
frame_unheld op bytes (Plain other) place goal same aimed = cc
frame_unheld op bytes (Frame other more) place goal same aimed = cc

aimed_next : (i j : Instr) (pc place goal : ℕ) → Aims linked Fits aiming i Whole place goal j
    → (effect_of j place).next ≡ with_goal goal (effect_of i pc).next
aimed_next (Near held d) j pc place goal aims =
    let kind = aimed_near held d j aims.same in
    let holds_goal : Some (goal_of place kind.0) ≡ Some goal = ap (λ (k : Instr). aiming.held k Whole place) (sym kind.1) ∙ aims.aimed in
    ap (λ (k : Instr). (effect_of k place).next) kind.1 ∙ ap (next.Branch (cond_of held)) (some_same _ _ holds_goal)
aimed_next (Far true d) j pc place goal aims =
    let kind = aimed_far true d j aims.same in
    let holds_goal : Some (goal_of place kind.0) ≡ Some goal = ap (λ (k : Instr). aiming.held k Whole place) (sym kind.1) ∙ aims.aimed in
    ap (λ (k : Instr). (effect_of k place).next) kind.1 ∙ ap (λ (g : ℕ). next.Call g (Some 5)) (some_same _ _ holds_goal)
aimed_next (Far false d) j pc place goal aims =
    let kind = aimed_far false d j aims.same in
    let holds_goal : Some (goal_of place kind.0) ≡ Some goal = ap (λ (k : Instr). aiming.held k Whole place) (sym kind.1) ∙ aims.aimed in
    ap (λ (k : Instr). (effect_of k place).next) kind.1 ∙ ap next.Jump (some_same _ _ holds_goal)
aimed_next (Plain op) j pc place goal aims = absurd (plain_unheld op j place goal aims.same aims.aimed)
aimed_next (Frame op bytes) j pc place goal aims = absurd (frame_unheld op bytes j place goal aims.same aims.aimed)

pub holds_goals : HoldGoals linked Fits aiming
holds_goals = record {
  whole = λ place goal. refl;
  jump = λ i pc goal fit low is. jump_held i pc goal is;
  call = λ i pc goal fit low is. call_held i pc goal is;
  aimed = λ i j pc place goal fit low near close aims. aimed_next i j pc place goal aims;
}

-- distances
distance_to : (place goal : ℕ) (d : ℤ) → place < 2 ^ 32 → goal < 2 ^ 32 → FitsSigned w16 d → goal_of place d ≡ goal
    → d ≡ pos goal -ℤ pos place
distance_to place goal (pos n) low near fit is = omega (arith, ints)
distance_to place goal (negsuc n) low near fit is = omega (arith, ints)

distance_from : (place goal : ℕ) (d : ℤ) → place < 2 ^ 32 → goal < 2 ^ 32 → FitsSigned w16 d → d ≡ pos goal -ℤ pos place
    → goal_of place d ≡ goal
distance_from place goal (pos n) low near fit is = omega (arith, ints)
distance_from place goal (negsuc n) low near fit is = omega (arith, ints)

near_within : (d : ℤ) → FitsSigned w8 d → (negsuc 127 ≤ℤ d) × (d ≤ℤ pos 127)
near_within (pos n) fit = (omega (arith, ints), omega (arith, ints))
near_within (negsuc n) fit = (omega (arith, ints), omega (arith, ints))

near_fits : (d : ℤ) → negsuc 127 ≤ℤ d → d ≤ℤ pos 127 → FitsSigned w8 d
near_fits (pos n) low high = omega (arith, ints)
near_fits (negsuc n) low high = omega (arith, ints)

far_within : (d : ℤ) → FitsSigned w16 d → (negsuc (2 ^ 15 - 1) ≤ℤ d) × (d ≤ℤ pos (2 ^ 15 - 1))
far_within (pos n) fit = (omega (arith, ints), omega (arith, ints))
far_within (negsuc n) fit = (omega (arith, ints), omega (arith, ints))

far_fits : (d : ℤ) → negsuc (2 ^ 15 - 1) ≤ℤ d → d ≤ℤ pos (2 ^ 15 - 1) → FitsSigned w16 d
far_fits (pos n) low high = omega (arith, ints)
far_fits (negsuc n) low high = omega (arith, ints)

near_reach : (held : Bool) (d : ℤ) → HasReach linked Fits aiming 4 (Near held d)
near_reach held d = record {
  low = negsuc 127;
  high = pos 127;
  low_most = omega (arith, ints);
  high_least = omega (arith, ints);
  reach = λ place goal low near whole. (
    λ can.
        let kind = aimed_near held d can.0 can.1.same in
        let fit : FitsSigned w8 kind.0 = subst Fits kind.1 can.1.fit in
        let at_goal : goal_of place kind.0 ≡ goal =
        some_same _ _ (ap (λ (k : Instr). aiming.held k Whole place) (sym kind.1) ∙ can.1.aimed) in
        subst (λ (e : ℤ). (negsuc 127 ≤ℤ e) × (e ≤ℤ pos 127)) (distance_to place goal kind.0 low near (widened kind.0 fit) at_goal)
        (near_within kind.0 fit),
    λ bounds.
        let e : ℤ = pos goal -ℤ pos place in
        let fit = near_fits e bounds.0 bounds.1 in (
          Near held e,
          record {
            fit = fit;
            same = refl;
            aimed = ap Some (distance_from place goal e low near (widened e fit) refl);
          },
        ),
  );
}

far_reach : (call : Bool) (d : ℤ) → HasReach linked Fits aiming 4 (Far call d)
far_reach call d = record {
  low = negsuc (2 ^ 15 - 1);
  high = pos (2 ^ 15 - 1);
  low_most = omega (arith, ints);
  high_least = omega (arith, ints);
  reach = λ place goal low near whole. (
    λ can.
        let kind = aimed_far call d can.0 can.1.same in
        let fit : FitsSigned w16 kind.0 = subst Fits kind.1 can.1.fit in
        let at_goal : goal_of place kind.0 ≡ goal =
        some_same _ _ (ap (λ (k : Instr). aiming.held k Whole place) (sym kind.1) ∙ can.1.aimed) in
        subst (λ (e : ℤ). (negsuc (2 ^ 15 - 1) ≤ℤ e) × (e ≤ℤ pos (2 ^ 15 - 1))) (distance_to place goal kind.0 low near fit at_goal)
        (far_within kind.0 fit),
    λ bounds.
        let e : ℤ = pos goal -ℤ pos place in
        let fit = far_fits e bounds.0 bounds.1 in (
          Far call e,
          record { fit = fit; same = refl; aimed = ap Some (distance_from place goal e low near fit refl) },
        ),
  );
}

pub reaches : HaveReach linked Fits aiming 4
reaches (Near held d) fit directed = near_reach held d
reaches (Far call d) fit directed = far_reach call d
reaches (Plain op) fit directed = absurd (cc)
reaches (Frame op bytes) fit directed = absurd (cc)

pub steady : AreSteady linked Fits riscv64.shape
unfolding flow_of
steady (Plain op) fit = record { sp = λ pc other low near. refl; next = λ pc other low near. refl }
steady (Frame op bytes) fit = record { sp = λ pc other low near. refl; next = λ pc other low near. refl }
steady (Near held d) fit = record { sp = λ pc other low near. refl; next = λ pc other low near. refl }
steady (Far true d) fit = record { sp = λ pc other low near. refl; next = λ pc other low near. refl }
steady (Far false d) fit = record { sp = λ pc other low near. refl; next = λ pc other low near. refl }

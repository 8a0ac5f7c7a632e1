-- Each moment of a kept run is known.
use Rattle.std.proofs.Common.{◌≡◌, ◌⊎◌, ℕ, ◌+◌, ◌-◌, ◌≤◌, Bool, true, false, List, [], ◌∷◌, Some, None, refl, sym, ap, ◌∙◌, subst, arith, inl, inr, length, if◌then◌else◌}
use Rattle.std.specs.List.{slice_get}
use Rattle.machine_effect.specs.declared.frame.Frame.{Frame}
use Rattle.machine_effect.specs.declared.state.State.{State}
use Rattle.machine_effect.specs.Applies.{IsState}
use Rattle.machine_effect.specs.Memory.{Memory, byte_at, bytes_of, is_within, put, word_at}
use Rattle.machine_effect.specs.Stores.{BytesStay}
use Rattle.machine_effect.proofs.MemoryLemmas.{above, below, byte_at-put}
use Rattle.machine_effect.proofs.StateLemmas.{length-bytes_of}
use Rattle.image_model.specs.Image.{Image, Line, has_link}
use Rattle.image_model.specs.Kept.{IsKept, IsKeptBy, Opens, PushMisses, RunsKept, SlotsStay}
use Rattle.image_model.specs.Soundness.{IsSound}
use Rattle.image_model.specs.Steps.{HasRoom, Moment, PushesReturn, Step, Way, ByPassing, ByJump, ByCall, ByReturn, ByAsking, ByLeaving, sp_of}
use Rattle.image_runs.specs.Known.{AreKnown, Holds, IsInner, IsKnown, Standing, slot_place}
use Rattle.image_runs.proofs.CallLemmas.{leaves, pops_sp, return_linked, return_unlinked, returns}
use Rattle.image_runs.proofs.EffectLemmas.{slots_stay, two_slots}
use Rattle.image_runs.proofs.GoingLemmas.{goes_on, jumps}
use Rattle.image_runs.proofs.LastLemmas.{deep_unlinked, inner_anew, place_unlinked, shallow_linked}
use Rattle.image_runs.proofs.OutLemmas.{asks, call}

-- bytes that are put elsewhere leave these
put_apart : (memory : Memory) (at word slot : ℕ) → (at + 8 ≤ slot) ⊎ (slot + 8 ≤ at)
    → BytesStay memory (put memory at (bytes_of 8 word)) slot 8
put_apart memory at word slot apart k less =
    let size : length (bytes_of 8 word) ≡ 8 = length-bytes_of 8 word in
    byte_at-put (bytes_of 8 word) memory at (slot + k)
    ∙ elim apart as (λ _. (if is_within at (length (bytes_of 8 word)) (slot + k) then slice_get (bytes_of 8 word) (slot + k - at) else byte_at memory (slot + k)) ≡ byte_at memory (slot + k)) [
      | inl over ↦ (let off = above at (length (bytes_of 8 word)) (slot + k) (omega arith) in rw off refl)
      | inr under ↦ (let off = below at (length (bytes_of 8 word)) (slot + k) (omega arith) in rw off refl)
    ]

module _ (img : Image) where
  -- over a call's push
  push_stays : (past : ℕ) (before between after : State) (calls : List Frame) → SlotsStay before.mem between.mem calls
      → (some : Bool) → has_link img ≡ some → PushesReturn img some past between after
      → (has_link img ≡ false → PushMisses img between calls) → SlotsStay before.mem after.mem calls
  push_stays past before between after calls stay true is same misses =
      subst (λ (memory : Memory). SlotsStay before.mem memory calls) (sym (ap (λ (s : State). s.mem) same)) stay
  push_stays past before between after calls stay false is pushes misses =
      let room = pushes.room in
      let memory : after.mem ≡ put between.mem (sp_of img between - 8) (bytes_of 8 past) = ap (λ (s : State). s.mem) pushes.same in
      subst (λ (memory : Memory). SlotsStay before.mem memory calls) (sym memory)
      (two_slots (λ slot. BytesStay before.mem between.mem slot 8)
      (λ slot. (sp_of img between ≤ slot) ⊎ (slot + 16 ≤ sp_of img between))
      (λ slot. BytesStay before.mem (put between.mem (sp_of img between - 8) (bytes_of 8 past)) slot 8)
      (λ slot kept miss k less.
      put_apart between.mem (sp_of img between - 8) past slot (apart slot room miss) k less ∙ kept k less)
      calls stay (misses is))
    where
      apart : (slot : ℕ) → 8 ≤ sp_of img between → (sp_of img between ≤ slot) ⊎ (slot + 16 ≤ sp_of img between)
          → (sp_of img between - 8 + 8 ≤ slot) ⊎ (slot + 8 ≤ sp_of img between - 8)
      apart slot room (inl over) = inl (omega arith)
      apart slot room (inr under) = inr (omega arith)

  module _ (sound : IsSound img) (m n : Moment) where
    stays : (p : Line) (frame : Frame) (further : List Frame) (then_state : IsState n.state) (way : Way img p frame further m n)
        → IsKeptBy img p frame further m n way → SlotsStay m.state.mem n.state.mem m.calls
    stays p frame further then_state (ByPassing way) kept =
        slots_stay img p.part.effect p.part.past m.state n.state way.applies m.calls kept
    stays p frame further then_state (ByJump way) kept =
        slots_stay img p.part.effect p.part.past m.state n.state way.applies m.calls kept
    stays p frame further then_state (ByCall way) kept =
        push_stays p.part.past m.state way.between n.state m.calls
        (slots_stay img p.part.effect p.part.past m.state way.between way.applies m.calls kept.0) (has_link img) refl way.pushes kept.1
    stays p frame further then_state (ByReturn way) kept =
        (let memory = (pops_sp img way.between n.state then_state sound.registers.sp (has_link img) refl way.pops).1 in
        subst (λ (memory : Memory). SlotsStay m.state.mem memory m.calls) (sym memory)
        (slots_stay img p.part.effect p.part.past m.state way.between way.applies m.calls kept))
    stays p frame further then_state (ByAsking way) kept = kept.slots
    stays p frame further then_state (ByLeaving way) kept = kept.slots

    -- a kept step leads from a known moment to a known one
    pub step_known : IsKnown img m → (step : Step img m n) → IsKept img m n step → IsKnown img n
    step_known known step kept =
        let same_line : known.line ≡ step.line = same_some known.line step.line (sym known.here ∙ step.here) in
        let both = same_cons known.frame step.frame known.further step.further (sym known.calls ∙ step.calls) in
        let inner : IsInner img step.line m.state step.frame =
        subst (λ (line : Line). IsInner img line m.state step.frame) same_line
        (subst (λ (frame : Frame). IsInner img known.line m.state frame) both.0 known.inner) in
        let standing : Standing img m.state.mem step.frame step.further =
        subst (λ (further : List Frame). Standing img m.state.mem step.frame further) both.1
        (subst (λ (frame : Frame). Standing img m.state.mem frame known.further) both.0 known.standing) in
        let all : SlotsStay m.state.mem n.state.mem m.calls = stays step.line step.frame step.further step.state step.way kept in
        let stay : SlotsStay m.state.mem n.state.mem (step.frame ∷ step.further) =
        subst (λ (calls : List Frame). SlotsStay m.state.mem n.state.mem calls) step.calls all in
        by step.line step.here step.frame step.further step.calls inner standing stay step.way kept step.state step.room
      where
        same_some : (one other : Line) → Some one ≡ Some other → one ≡ other
        same_some one other same = cc

        same_cons : (one other : Frame) (more rest : List Frame) → one ∷ more ≡ other ∷ rest → (one ≡ other) × (more ≡ rest)
        same_cons one other more rest same = (cc, cc)

        by : (p : Line) → img.line_at m.state.pc ≡ Some p → (frame : Frame) (further : List Frame) → m.calls ≡ frame ∷ further
            → IsInner img p m.state frame → Standing img m.state.mem frame further
            → SlotsStay m.state.mem n.state.mem (frame ∷ further) → (way : Way img p frame further m n)
            → IsKeptBy img p frame further m n way → IsState n.state → HasRoom img p m.state → IsKnown img n
        by p here frame further calls inner standing stay (ByPassing way) kept state room =
            goes_on img sound m n known.state state p here frame further calls room inner standing stay way
        by p here frame further calls inner standing stay (ByJump way) kept state room =
            jumps img sound m n known.state state p here frame further calls room inner standing stay way
        by p here frame further calls inner standing stay (ByCall way) kept state room =
            call img sound m n known.state state p here frame further calls inner standing stay way
        by p here frame further calls inner standing stay (ByReturn way) kept state room =
            returns img sound m n known.state state p here frame further calls inner standing stay way
        by p here frame further calls inner standing stay (ByAsking way) kept state room =
            asks img sound m n known.state state p here frame further calls inner standing stay way kept
        by p here frame further calls inner standing stay (ByLeaving way) kept state room =
            leaves img sound m n known.state state p here frame further calls inner standing stay way kept

  -- the first moment is known
  pub opens_known : IsSound img → (first : Moment) → Opens img first → IsKnown img first
  opens_known sound first opens =
      let there = sound.entries first.state.pc opens.entry in
      let q : Line = there.0 in
      let frame : Frame = record {
        func = first.state.pc;
        call = None;
        ret = opens.ret;
        base = sp_of img first.state;
        slot = if has_link img then None else Some (sp_of img first.state);
      } in
      record {
        state = opens.state;
        line = q;
        here = there.1;
        frame = frame;
        further = [];
        calls = opens.calls;
        inner =
            inner_anew img q first.state frame opens.state there.2.index (sym there.2.entry)
            (subst (λ (d : ℕ). Holds img d None first.state frame) (sym there.2.depth) (by (has_link img) refl));
        standing = (refl, opens.outside);
      }
    where
      opened : Frame
      opened = record {
        func = first.state.pc;
        call = None;
        ret = opens.ret;
        base = sp_of img first.state;
        slot = if has_link img then None else Some (sp_of img first.state);
      }

      by : (some : Bool) → has_link img ≡ some → Holds img 0 None first.state opened
      by true some =
          (let slot : (if has_link img then None else Some (sp_of img first.state)) ≡ None = rw some refl in
          let back = sym (return_linked img first.state some) ∙ opens.back in
          record {
            base = omega arith;
            low = opens.state.regs img.shape.sp;
            link = λ shallow. cc;
            unsaved_slot = λ shallow. slot;
            slot = λ deep. absurd (cc (deep, shallow_linked img some));
            word = λ deep. absurd (cc (deep, shallow_linked img some));
          })
      by false none =
          (let slot : (if has_link img then None else Some (sp_of img first.state)) ≡ Some (sp_of img first.state) = rw none refl in
          let place : slot_place img (sp_of img first.state) 0 ≡ sp_of img first.state + 0 = place_unlinked img (sp_of img first.state) 0 none in
          let straight : sp_of img first.state + 0 ≡ sp_of img first.state = omega arith in
          record {
            base = omega arith;
            low = opens.state.regs img.shape.sp;
            link = λ shallow. absurd (cc (shallow, deep_unlinked img 0 none));
            unsaved_slot = λ shallow. absurd (cc (shallow, deep_unlinked img 0 none));
            slot = λ deep. slot ∙ ap Some (sym straight ∙ sym place);
            word = λ deep. ap (word_at first.state.mem) (place ∙ straight) ∙ sym (return_unlinked img first.state none) ∙ opens.back;
          })

  pub runs_known : IsSound img → (first : Moment) (more : List Moment) → IsKnown img first → RunsKept img first more
      → AreKnown img first more
  runs_known sound first [] known runs = known
  runs_known sound first (second ∷ more) known runs =
      (known, runs_known sound second more (step_known sound first second known runs.0 runs.1) runs.2)

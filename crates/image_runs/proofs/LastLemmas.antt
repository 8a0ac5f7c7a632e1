-- The last instruction of a sequence, or one that stands alone.
use Rattle.std.proofs.Common.{◌≡◌, ℕ, suc, ℤ, pos, ◌+◌, ◌-◌, ◌<◌, ◌≤◌, ◌^◌, ◌%◌, ◌==◌, ◌&&◌, ◌||◌, Bool, true, false, Option, Some, None, is_some, refl, sym, ap, ◌∙◌, subst, arith, if◌then◌else◌}
use Rattle.std.proofs.lemmas.Bool.Decides.{nat_tests}
use Rattle.std.proofs.lemmas.Int.{ints}
use Rattle.std.specs.Option.{option_map}
use Rattle.std.specs.Prelude.{IfSome, ◌+ℤ◌, ◌-ℤ◌}
use Rattle.machine_effect.specs.declared.effect.Access.{Access}
use Rattle.machine_effect.specs.declared.effect.Value.{Value}
use Rattle.machine_effect.specs.declared.flow.SpMove.{SpMove}
use Rattle.machine_effect.specs.declared.flow.SpMove.TheVariants.{By, Keep, Other}
use Rattle.machine_effect.specs.declared.frame.Frame.{Frame}
use Rattle.machine_effect.specs.declared.next.Next.{Next}
use Rattle.machine_effect.specs.declared.next.Next.TheVariants as next
use Rattle.machine_effect.specs.declared.state.State.{State}
use Rattle.machine_effect.specs.Applies.{Applies, IsState, address_of}
use Rattle.machine_effect.specs.Flow.{flow_of}
use Rattle.machine_effect.specs.Memory.{word_at}
use Rattle.machine_effect.specs.Stores.{BytesStay}
use Rattle.machine_effect.specs.Values.{reg_of}
use Rattle.asm_target.specs.declared.sequence.Sequence.{Sequence}
use Rattle.asm_target.specs.declared.sequence.Sequence.TheVariants.{Plain, Saving, Restoring, Growth}
use Rattle.asm_target.specs.DepthChange.{depth_added, is_call, is_return}
use Rattle.asm_target.specs.FlowRules.{is_other}
use Rattle.asm_target.specs.Runs.{Leads, PlacedEffect}
use Rattle.asm_target.specs.SequenceLaws.{below}
use Rattle.asm_target.specs.Sequences.{depth_added_by, span_of}
use Rattle.image_model.specs.Actions.{ActsAs, RestoresLink, SavesLink, IsTotal}
use Rattle.image_model.specs.Image.{Image, Line, flow_in, has_link, next_of}
use Rattle.image_model.specs.Soundness.{IsSoundLine, SuitsRole, span_in}
use Rattle.image_model.specs.Steps.{HasRoom, IsInRange, distance_of, frame_after, or_stored, register_or_zero, sp_of, stored_at, unless_passed}
use Rattle.asm_target.proofs.CleanLemmas.{some_below}
use Rattle.image_runs.specs.Known.{Holds, IsInner, in_link, slot_by, slot_in, slot_place, stored_before}
use Rattle.image_runs.proofs.EffectLemmas.{at_slot, link_kept, passed_not, passed_over, sp_kept, sp_moved, unpassed, word_stays}
use Rattle.image_runs.proofs.InsideLemmas.{keep_stored, saving_slot, shallow_zero}

linked_not : (some : Bool) (b : Bool) → some ≡ false → (some && b) ≡ true → ⊥
linked_not true b none is = cc
linked_not false b none is = cc

next_not_fall : (goes : Next) → (is_call goes || is_return goes) ≡ true → ¬ (goes ≡ next.Fall)
next_not_fall goes is falls = cc (is, ap (λ (n : Next). is_call n || is_return n) falls)

module _ (img : Image) where
  pub place_linked : (sp depth : ℕ) → has_link img ≡ true → slot_place img sp depth ≡ sp
  place_linked sp depth some = rw some refl

  pub place_unlinked : (sp depth : ℕ) → has_link img ≡ false → slot_place img sp depth ≡ sp + depth
  place_unlinked sp depth none = rw none refl

  pub deep_unlinked : (depth : ℕ) → has_link img ≡ false → in_link img depth ≡ false
  deep_unlinked depth none = rw none refl

  pub deep_below : (depth : ℕ) → 0 < depth → in_link img depth ≡ false
  deep_below depth more =
      let off : (depth == 0) ≡ false = grind (arith, nat_tests) in
      off_right (has_link img) (depth == 0) off
    where
      off_right : (one other : Bool) → other ≡ false → (one && other) ≡ false
      off_right true other off = off
      off_right false other off = refl

  pub shallow_linked : has_link img ≡ true → in_link img 0 ≡ true
  shallow_linked some = rw some refl

  -- at the first instruction of a sequence nothing has happened yet
  slot_start : (role : Sequence) (parts : ℕ → PlacedEffect) (sp : ℕ) → slot_by img role parts 0 sp ≡ None
  slot_start Plain parts sp = refl
  slot_start (Saving count total) parts sp = refl
  slot_start (Restoring count total) parts sp = refl
  slot_start (Growth count) parts sp = refl

  pub inner_anew : (q : Line) (state : State) (frame : Frame) → IsState state → q.index ≡ 0 → frame.func ≡ q.entry
      → Holds img q.depth None state frame → IsInner img q state frame
  inner_anew q state frame fine first entry holds =
      let none : slot_in img q (sp_of img state) ≡ None =
      ap (λ (n : ℕ). slot_by img q.role q.parts n (sp_of img state)) first ∙ slot_start q.role q.parts (sp_of img state) in
      record {
        entry = entry;
        holds = subst (λ (o : Option ℕ). Holds img q.depth o state frame) (sym none) holds;
        began = record {
          start = state;
          fine = fine;
          came = subst (λ (n : ℕ). Leads q.parts n state state) (sym first) refl;
          sp = refl;
          link = holds.link;
          word = holds.word;
        };
      }

module _ (img : Image) (register : img.shape.sp < 33) (at : ℕ) (p : Line) (sound : IsSoundLine img at p) (before after : State)
    (fine : IsState before) (frame : Frame) (inner : IsInner img p before frame)
    (applies : Applies p.part.effect p.part.past before after) (room : HasRoom img p before)
    (stay : IfSome frame.slot (λ slot. BytesStay before.mem after.mem slot 8)) (d : ℕ) (depth : pos d ≡ pos p.depth +ℤ p.change) where
  abbrev sp : ℕ
  sp = sp_of img before

  abbrev sp' : ℕ
  sp' = sp_of img after

  abbrev stored : Option ℕ
  stored = stored_at img p before applies.loaded

  abbrev then_frame : Frame
  then_frame = frame_after img p before after applies.loaded frame

  -- the saved return address is as before
  word_kept : (place : ℕ) → frame.slot ≡ Some place → word_at after.mem place ≡ word_at before.mem place
  word_kept place is =
      word_stays before.mem after.mem place (at_slot (λ slot. BytesStay before.mem after.mem slot 8) frame.slot place is stay)

  plain_linked : p.role ≡ Plain → has_link img ≡ true → Holds img d None after then_frame
  plain_linked plain some =
      let suits = subst (λ (role : Sequence). SuitsRole img role p) plain sound.suits some in
      let same : sp' ≡ sp = sp_kept img p.part.effect p.part.past before after applies suits.sp in
      let inside = sound.inside in
      let span : span_in p ≡ 1 = ap span_of plain in
      let change : p.change ≡ pos 0 = (sound.linked some).last (omega arith) ∙ ap depth_added_by plain in
      let level : d ≡ p.depth = omega (arith, ints) in
      let base = inner.holds.base in
      record {
        base = omega arith;
        low = inner.holds.low;
        link = λ shallow.
            let was : in_link img p.depth ≡ true = ap (in_link img) (sym level) ∙ shallow in
            link_kept img p.part.effect p.part.past before after applies some (suits.unwritten (shallow_zero (has_link img) p.depth was))
            ∙ inner.holds.link was;
        unsaved_slot = λ shallow.
            let was : in_link img p.depth ≡ true = ap (in_link img) (sym level) ∙ shallow in
            let none : frame.slot ≡ None =
            inner.holds.unsaved_slot was ∙ ap (λ (role : Sequence). slot_by img role p.parts p.index sp) plain in
            let unstored : stored ≡ None =
            ap (λ (b : Bool). if b then option_map (λ store. address_of before applies.loaded store.0) p.part.effect.store else None)
            (suits.unstored (shallow_zero (has_link img) p.depth was)) in
            unpassed sp sp' (or_stored frame.slot stored) (omega arith) ∙ keep_stored frame.slot stored unstored ∙ none;
        slot = λ deep.
            let was : in_link img p.depth ≡ false = ap (in_link img) (sym level) ∙ deep in
            unpassed sp sp' (or_stored frame.slot stored) (omega arith)
            ∙ ap (λ (o : Option ℕ). or_stored o stored) (inner.holds.slot was)
            ∙ ap Some (place_linked img sp p.depth some ∙ sym same ∙ sym (place_linked img sp' d some));
        word = λ deep.
            let was : in_link img p.depth ≡ false = ap (in_link img) (sym level) ∙ deep in
            let place : slot_place img sp' d ≡ slot_place img sp p.depth =
            place_linked img sp' d some ∙ same ∙ sym (place_linked img sp p.depth some) in
            ap (word_at after.mem) place ∙ word_kept (slot_place img sp p.depth) (inner.holds.slot was) ∙ inner.holds.word was;
      }

  -- without a link register the depth changes as the stack pointer moves
  moves : has_link img ≡ false → pos sp' ≡ pos sp -ℤ p.change
  unfolding flow_of
  moves none = by (flow_in img p).sp refl
    where
      changed : p.change ≡ (if is_call (next_of p) || is_return (next_of p) then pos 0 else depth_added (flow_in img p).sp)
      changed = (sound.unlinked none).change

      by : (move : SpMove) → (flow_in img p).sp ≡ move → pos sp' ≡ pos sp -ℤ p.change
      by Keep is =
          (let same : sp' ≡ sp = sp_kept img p.part.effect p.part.past before after applies is in
          let zero : p.change ≡ pos 0 = changed ∙ either (is_call (next_of p) || is_return (next_of p)) (depth_added (flow_in img p).sp) (ap depth_added is) in
          omega (arith, ints))
        where
          either : (b : Bool) (other : ℤ) → other ≡ pos 0 → (if b then pos 0 else other) ≡ pos 0
          either true other is = refl
          either false other is = is
      by (By k) is =
          (let off : (is_call (next_of p) || is_return (next_of p)) ≡ false = plain_move (is_call (next_of p) || is_return (next_of p)) refl in
          let change : p.change ≡ pos 0 -ℤ k =
          changed ∙ ap (λ (b : Bool). if b then pos 0 else depth_added (flow_in img p).sp) off ∙ ap depth_added is in
          let range : IsInRange (pos sp +ℤ k) = subst (λ (m : SpMove). IsInRange (pos sp +ℤ distance_of m)) is room.move in
          let moved = sp_moved img p.part.effect p.part.past before after applies k fine register is range in
          omega (arith, ints))
        where
          plain_move : (b : Bool) → (is_call (next_of p) || is_return (next_of p)) ≡ b → b ≡ false
          plain_move true on = (let keeps = (sound.still (next_not_fall (next_of p) on)).0 in absurd (cc (keeps, is)))
          plain_move false on = refl
      by Other is = absurd (cc ((sound.unlinked none).told, ap is_other is))

  plain_unlinked : p.role ≡ Plain → has_link img ≡ false → Holds img d None after then_frame
  plain_unlinked plain none =
      let moved = moves none in
      let base = inner.holds.base in
      let was : in_link img p.depth ≡ false = deep_unlinked img p.depth none in
      let level : sp' + d ≡ sp + p.depth = omega (arith, ints) in
      let place : slot_place img sp p.depth ≡ sp + p.depth = place_unlinked img sp p.depth none in
      let place' : slot_place img sp' d ≡ sp + p.depth = place_unlinked img sp' d none ∙ level in
      let stands : frame.slot ≡ Some (sp + p.depth) = inner.holds.slot was ∙ ap Some place in
      record {
        base = omega arith;
        low = inner.holds.low;
        link = λ shallow. absurd (cc (shallow, deep_unlinked img d none));
        unsaved_slot = λ shallow. absurd (cc (shallow, deep_unlinked img d none));
        slot = λ deep.
            ap (λ (o : Option ℕ). unless_passed sp sp' (or_stored o stored)) stands ∙ passed_not sp sp' (sp + p.depth) (omega arith)
            ∙ ap Some (sym place');
        word = λ deep.
            ap (word_at after.mem) place' ∙ word_kept (sp + p.depth) stands ∙ ap (word_at before.mem) (sym place) ∙ inner.holds.word was;
      }

  pub plain_holds : p.role ≡ Plain → Holds img d None after then_frame
  plain_holds plain =
      elim (has_link img) as (λ b. has_link img ≡ b → Holds img d None after then_frame) [
        | true ↦ plain_linked plain
        | false ↦ plain_unlinked plain
      ] refl

  -- a sequence that makes a frame has saved the return address at the final stack pointer
  saved : (link count total : ℕ) → img.shape.link ≡ Some link → p.role ≡ Saving count total → IsTotal total
      → SavesLink img.shape p.parts link count total → suc p.index ≡ span_in p → Holds img d None after then_frame
  saved link count total named role size saves last =
      let some : has_link img ≡ true = ap is_some named in
      let span : span_in p ≡ count = ap span_of role in
      let zero : p.depth ≡ 0 = subst (λ (role : Sequence). SuitsRole img role p) role sound.suits in
      let change : p.change ≡ pos total = (sound.linked some).last last ∙ ap depth_added_by role in
      let level : d ≡ total = omega (arith, ints) in
      let more : 0 < total = size.0 in
      let deep' : in_link img d ≡ false = deep_below img d (omega arith) in
      let was : in_link img p.depth ≡ true = ap (in_link img) zero ∙ shallow_linked img some in
      let began = inner.began in
      let ran : Leads p.parts count began.start after =
      subst (λ (n : ℕ). Leads p.parts n began.start after) (last ∙ span)
      (before, began.came, subst (λ (e : PlacedEffect). Applies e.effect e.past before after) (sym sound.part) applies) in
      let lowers : sp' ≡ below (sp_of img began.start) total = saves.lowers began.start after began.fine ran in
      let start : sp_of img began.start ≡ sp = began.sp in
      let enough : IsInRange (pos sp -ℤ pos total) = subst (λ (z : ℤ). IsInRange (pos sp -ℤ z)) change room.change in
      let wide : sp < 2 ^ 64 = fine.regs img.shape.sp in
      let least : total ≤ sp = omega (arith, ints, enough.0) in
      let at_end : below sp total ≡ sp - total = omega arith in
      let same : sp' ≡ sp - total = lowers ∙ ap (λ (n : ℕ). below n total) start ∙ at_end in
      let base = inner.holds.base in
      let stored_is : stored ≡ (if (flow_of (p.parts p.index).effect img.shape).stores_link
      then option_map (λ (store : Access × Value). address_of before applies.loaded store.0) (p.parts p.index).effect.store else None) =
      ap (λ (e : PlacedEffect). if (flow_of e.effect img.shape).stores_link
      then option_map (λ (store : Access × Value). address_of before applies.loaded store.0) e.effect.store else None) (sym sound.part) in
      let told : or_stored frame.slot stored ≡ slot_by img (Saving count total) p.parts (suc p.index) sp =
      ap (or_stored frame.slot) stored_is
      ∙ saving_slot img p.parts began.start before began.fine applies.loaded p.index began.came sp start frame.slot link count total
      (size, saves) (omega arith) (inner.holds.unsaved_slot was ∙ ap (λ (role : Sequence). slot_by img role p.parts p.index sp) role) in
      let counted : stored_before img p.parts (suc p.index) ≡ true =
      some_below (λ k. (flow_of (p.parts k).effect img.shape).stores_link) (suc p.index) saves.position (omega (arith, saves.inside)) saves.stores in
      let slot : or_stored frame.slot stored ≡ Some (sp - total) =
      told ∙ ap (λ (b : Bool). if b then Some (below sp total) else None) counted ∙ ap Some at_end in
      let place : slot_place img sp' d ≡ sp' = place_linked img sp' d some in
      record {
        base = omega arith;
        low = inner.holds.low;
        link = λ shallow. absurd (cc (shallow, deep'));
        unsaved_slot = λ shallow. absurd (cc (shallow, deep'));
        slot = λ deep.
            ap (unless_passed sp sp') slot ∙ passed_not sp sp' (sp - total) (omega arith) ∙ ap Some (sym same ∙ sym place);
        word = λ deep.
            ap (word_at after.mem) place ∙ saves.saves began.start after began.fine ran
            ∙ ap (λ (l : Option ℕ). Some (reg_of began.start (register_or_zero l))) (sym named) ∙ ap Some (began.link was);
      }

  -- one that leaves a frame has the return address in the link register again
  restored : (link count total : ℕ) → img.shape.link ≡ Some link → p.role ≡ Restoring count total → IsTotal total
      → RestoresLink img.shape p.parts link count total → suc p.index ≡ span_in p → Holds img d None after then_frame
  restored link count total named role size restores last =
      let some : has_link img ≡ true = ap is_some named in
      let span : span_in p ≡ count = ap span_of role in
      let full : p.depth ≡ total = subst (λ (role : Sequence). SuitsRole img role p) role sound.suits in
      let change : p.change ≡ pos 0 -ℤ pos total = (sound.linked some).last last ∙ ap depth_added_by role in
      let level : d ≡ 0 = omega (arith, ints) in
      let more : 0 < total = size.0 in
      let was : in_link img p.depth ≡ false = deep_below img p.depth (omega arith) in
      let shallow' : in_link img d ≡ true = ap (in_link img) level ∙ shallow_linked img some in
      let began = inner.began in
      let ran : Leads p.parts count began.start after =
      subst (λ (n : ℕ). Leads p.parts n began.start after) (last ∙ span)
      (before, began.came, subst (λ (e : PlacedEffect). Applies e.effect e.past before after) (sym sound.part) applies) in
      let raises : sp' ≡ (sp_of img began.start + total) % 2 ^ 64 = restores.raises began.start after began.fine ran in
      let start : sp_of img began.start ≡ sp = began.sp in
      let enough : IsInRange (pos sp -ℤ (pos 0 -ℤ pos total)) = subst (λ (z : ℤ). IsInRange (pos sp -ℤ z)) change room.change in
      let most : sp + total < 2 ^ 64 = omega (arith, ints, enough.1) in
      let same : sp' ≡ sp + total = omega arith in
      let base = inner.holds.base in
      let place : slot_place img sp p.depth ≡ sp = place_linked img sp p.depth some in
      let stands : frame.slot ≡ Some sp = inner.holds.slot was ∙ ap Some place in
      let word : word_at began.start.mem (sp_of img began.start) ≡ Some frame.ret =
      ap (word_at began.start.mem) (sym (place_linked img (sp_of img began.start) p.depth some)) ∙ began.word was in
      record {
        base = omega arith;
        low = inner.holds.low;
        link = λ shallow.
            ap (λ (l : Option ℕ). reg_of after (register_or_zero l)) named
            ∙ restores.restores frame.ret began.start after began.fine ran word;
        unsaved_slot = λ shallow.
            ap (λ (o : Option ℕ). unless_passed sp sp' (or_stored o stored)) stands ∙ passed_over sp sp' sp (omega arith) (omega arith);
        slot = λ deep. absurd (cc (shallow', deep));
        word = λ deep. absurd (cc (shallow', deep));
      }

  -- whichever sequence ends here, but for one that grows the stack
  pub last_holds : suc p.index ≡ span_in p → ((count : ℕ) → ¬ (p.role ≡ Growth count)) → Holds img d None after then_frame
  last_holds last other = by img.shape.link img.growth p.role refl refl sound.acts
    where
      by : (link growth : Option ℕ) (role : Sequence) → img.shape.link ≡ link → p.role ≡ role → ActsAs img.shape p.parts link growth role
          → Holds img d None after then_frame
      by link growth Plain named is acts = plain_holds is
      by (Some link) growth (Saving count total) named is acts = saved link count total named is acts.0 acts.1 last
      by (Some link) growth (Restoring count total) named is acts = restored link count total named is acts.0 acts.1 last
      by link growth (Growth count) named is acts = absurd (other count is)
      by None growth (Saving count total) named is acts = absurd acts
      by None growth (Restoring count total) named is acts = absurd acts

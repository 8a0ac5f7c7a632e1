-- Calls, returns, and what is done outside.
use Rattle.std.proofs.Common.{◌≡◌, ℕ, ◌+◌, ◌-◌, ◌<◌, ◌&&◌, Bool, true, false, not, List, ◌∷◌, Some, length, refl, sym, ap, ◌∙◌, subst, arith, inl, inr}
use Rattle.std.proofs.lemmas.Int.{ints}
use Rattle.std.proofs.lemmas.List.{length-set}
use Rattle.std.specs.Prelude.{slice_set}
use Rattle.machine_effect.specs.declared.frame.Frame.{Frame}
use Rattle.machine_effect.specs.declared.next.Next.{Next}
use Rattle.machine_effect.specs.declared.next.Next.TheVariants as next
use Rattle.machine_effect.specs.declared.state.State.{State}
use Rattle.machine_effect.specs.Applies.{IsState}
use Rattle.machine_effect.specs.Memory.{Memory, word_at}
use Rattle.machine_effect.specs.Stores.{BytesStay}
use Rattle.machine_effect.proofs.FlowLemmas.{set_here}
use Rattle.asm_target.specs.declared.sequence.Sequence.{Sequence}
use Rattle.asm_target.specs.declared.sequence.Sequence.TheVariants.{Plain}
use Rattle.asm_target.specs.DepthChange.{is_call, is_return}
use Rattle.asm_target.specs.FlowRules.{can_pass}
use Rattle.asm_target.specs.Sequences.{span_of}
use Rattle.image_model.specs.Image.{Image, Line, has_link, is_growth_call, is_served, next_of}
use Rattle.image_model.specs.Kept.{KeepsJump, SlotsStay}
use Rattle.image_model.specs.Soundness.{Follows, IsPlainLine, IsSound, IsSoundLine, SuitsRole, span_in}
use Rattle.image_model.specs.Steps.{Leaves, Moment, PopsReturn, PushesReturn, Resumes, Returns, calls_to, link_in, pushed, return_of, sp_of}
use Rattle.image_runs.specs.Known.{IsInner, IsKnown, Standing, in_link, slot_place}
use Rattle.image_runs.proofs.EffectLemmas.{at_slot, link_kept, slot_first, slots_behind, sp_kept, stands_on, word_stays}
use Rattle.image_runs.proofs.GoingLemmas.{ends_alone, growth_last, jump_cases}
use Rattle.image_runs.proofs.LastLemmas.{deep_unlinked, inner_anew, place_unlinked, shallow_linked}

pub calls_is : (state : State) (loaded : ℕ) (goes : Next) (goal : ℕ) → calls_to state loaded goes ≡ Some goal → is_call goes ≡ true
calls_is state loaded (next.Call there link) goal is = refl
calls_is state loaded (next.CallTo there link) goal is = refl
calls_is state loaded next.Fall goal is = absurd (cc)
calls_is state loaded (next.Branch held there) goal is = absurd (cc)
calls_is state loaded (next.Jump there) goal is = absurd (cc)
calls_is state loaded (next.JumpTo there) goal is = absurd (cc)
calls_is state loaded next.Return goal is = absurd (cc)
calls_is state loaded next.System goal is = absurd (cc)
calls_is state loaded next.Stop goal is = absurd (cc)

pub growth_goal : (is_routine : ℕ → Bool) (state : State) (loaded : ℕ) (goes : Next) (goal : ℕ) → calls_to state loaded goes ≡ Some goal
    → is_growth_call is_routine goes ≡ true → is_routine goal ≡ true
growth_goal is_routine state loaded (next.Call there link) goal is growth =
    (let same : there ≡ goal = cc in subst (λ (g : ℕ). is_routine g ≡ true) same growth)
growth_goal is_routine state loaded (next.CallTo there link) goal is growth = absurd (cc)
growth_goal is_routine state loaded next.Fall goal is growth = absurd (cc)
growth_goal is_routine state loaded (next.Branch held there) goal is growth = absurd (cc)
growth_goal is_routine state loaded (next.Jump there) goal is growth = absurd (cc)
growth_goal is_routine state loaded (next.JumpTo there) goal is growth = absurd (cc)
growth_goal is_routine state loaded next.Return goal is growth = absurd (cc)
growth_goal is_routine state loaded next.System goal is growth = absurd (cc)
growth_goal is_routine state loaded next.Stop goal is growth = absurd (cc)

pub call_not_fall : (goes : Next) → is_call goes ≡ true → ¬ (goes ≡ next.Fall)
call_not_fall goes is falls = cc (is, ap is_call falls)

pub call_passes : (goes : Next) → is_call goes ≡ true → can_pass goes ≡ true
call_passes (next.Call there link) is = refl
call_passes (next.CallTo there link) is = refl
call_passes next.Fall is = refl
call_passes (next.Branch held there) is = refl
call_passes (next.Jump there) is = absurd (cc)
call_passes (next.JumpTo there) is = absurd (cc)
call_passes next.Return is = absurd (cc)
call_passes next.System is = refl
call_passes next.Stop is = absurd (cc)

return_not_fall : (goes : Next) → is_return goes ≡ true → ¬ (goes ≡ next.Fall)
return_not_fall goes is falls = cc (is, ap is_return falls)

return_no_call : (is_routine : ℕ → Bool) (goes : Next) → is_return goes ≡ true → is_growth_call is_routine goes ≡ false
return_no_call is_routine next.Return is = refl
return_no_call is_routine next.Fall is = refl
return_no_call is_routine (next.Branch held there) is = refl
return_no_call is_routine (next.Jump there) is = refl
return_no_call is_routine (next.JumpTo there) is = refl
return_no_call is_routine (next.Call there link) is = absurd (cc)
return_no_call is_routine (next.CallTo there link) is = refl
return_no_call is_routine next.System is = refl
return_no_call is_routine next.Stop is = refl

served_call : (is_routine : ℕ → Bool) (goes : Next) → is_served is_routine goes ≡ true → is_call goes ≡ true
served_call is_routine goes is = by (is_call goes) refl
  where
    by : (b : Bool) → is_call goes ≡ b → is_call goes ≡ true
    by true on = on
    by false off = absurd (cc (is, ap (λ (b : Bool). b && not (is_growth_call is_routine goes)) off))

pub serves : (is_routine : ℕ → Bool) (goes : Next) → is_call goes ≡ true → is_growth_call is_routine goes ≡ false → is_served is_routine goes ≡ true
serves is_routine goes call other = rw (call, other) refl

module _ (img : Image) where
  pub pushed_linked : has_link img ≡ true → pushed img ≡ 0
  pushed_linked some = rw some refl

  pub pushed_unlinked : has_link img ≡ false → pushed img ≡ 8
  pushed_unlinked none = rw none refl

  pub return_linked : (state : State) → has_link img ≡ true → return_of img state ≡ Some (link_in img state)
  return_linked state some = rw some refl

  pub return_unlinked : (state : State) → has_link img ≡ false → return_of img state ≡ word_at state.mem (sp_of img state)
  return_unlinked state none = rw none refl

  -- the stack pointer below what a call pushes
  pub pushes_sp : (past : ℕ) (between after : State) → IsState after → img.shape.sp < 33 → (some : Bool) → has_link img ≡ some
      → PushesReturn img some past between after → sp_of img after + pushed img ≡ sp_of img between
  pushes_sp past between after state register true is same =
      (let none = pushed_linked is in
      let kept : sp_of img after ≡ sp_of img between = ap (λ (s : State). sp_of img s) same in
      omega arith)
  pushes_sp past between after state register false is pushes =
      (let eight = pushed_unlinked is in
      let room = pushes.room in
      let long : length (slice_set between.regs img.shape.sp (sp_of img between - 8)) ≡ 33 =
      ap (λ (s : State). length s.regs) (sym pushes.same) ∙ state.regs_len in
      let size : length (slice_set between.regs img.shape.sp (sp_of img between - 8)) ≡ length between.regs = length-set between.regs img.shape.sp (sp_of img between - 8) in
      let less : sp_of img after ≡ sp_of img between - 8 =
      ap (λ (s : State). sp_of img s) pushes.same
      ∙ set_here between.regs img.shape.sp img.shape.sp (sp_of img between - 8) refl (omega arith) in
      omega arith)

  pub pops_sp : (between after : State) → IsState after → img.shape.sp < 33 → (some : Bool) → has_link img ≡ some
      → PopsReturn img some between after → (sp_of img after ≡ sp_of img between + pushed img) × (after.mem ≡ between.mem)
  pops_sp between after state register true is same =
      (let none = pushed_linked is in
      let kept : sp_of img after ≡ sp_of img between = ap (λ (s : State). sp_of img s) same in
      (omega arith, ap (λ (s : State). s.mem) same))
  pops_sp between after state register false is pops =
      (let eight = pushed_unlinked is in
      let long : length (slice_set between.regs img.shape.sp (sp_of img between + 8)) ≡ 33 =
      ap (λ (s : State). length s.regs) (sym pops.same) ∙ state.regs_len in
      let size : length (slice_set between.regs img.shape.sp (sp_of img between + 8)) ≡ length between.regs = length-set between.regs img.shape.sp (sp_of img between + 8) in
      let more : sp_of img after ≡ sp_of img between + 8 =
      ap (λ (s : State). sp_of img s) pops.same
      ∙ set_here between.regs img.shape.sp img.shape.sp (sp_of img between + 8) refl (omega arith) in
      (omega arith, ap (λ (s : State). s.mem) pops.same))

module _ (img : Image) (sound : IsSound img) (m n : Moment) (state : IsState m.state) (then_state : IsState n.state) (p : Line)
    (here : img.line_at m.state.pc ≡ Some p) (frame : Frame) (further : List Frame) (calls : m.calls ≡ frame ∷ further)
    (inner : IsInner img p m.state frame) (standing : Standing img m.state.mem frame further)
    (stay : SlotsStay m.state.mem n.state.mem (frame ∷ further)) where
  line_sound : IsSoundLine img m.state.pc p
  line_sound = sound.lines m.state.pc p here

  pub still_standing : Standing img n.state.mem frame further
  still_standing =
      stands_on img m.state.mem n.state.mem frame further
      (slots_behind (λ slot. BytesStay m.state.mem n.state.mem slot 8) frame further stay) standing

  -- the return address of this frame is as before
  pub own_word : in_link img p.depth ≡ false → word_at n.state.mem (slot_place img (sp_of img m.state) p.depth) ≡ Some frame.ret
  own_word deep =
      let place : ℕ = slot_place img (sp_of img m.state) p.depth in
      word_stays m.state.mem n.state.mem place
      (at_slot (λ slot. BytesStay m.state.mem n.state.mem slot 8) frame.slot place (inner.holds.slot deep)
      (slot_first (λ slot. BytesStay m.state.mem n.state.mem slot 8) frame further stay))
      ∙ inner.holds.word deep

  -- a plain instruction, with a link register
  pub plain_line : p.role ≡ Plain → has_link img ≡ true → IsPlainLine img p
  plain_line plain some = subst (λ (role : Sequence). SuitsRole img role p) plain line_sound.suits some

  -- the machine goes on in the caller's frame
  resumed : (value : ℕ) → value ≡ frame.ret → Resumes img value further n → sp_of img n.state ≡ frame.base + pushed img → IsKnown img n
  resumed value is resumes sp =
      let y : Frame = resumes.caller in
      let others : List Frame = resumes.others in
      let stands : Standing img n.state.mem frame (y ∷ others) =
      subst (λ (more : List Frame). Standing img n.state.mem frame more) resumes.stands still_standing in
      let c = stands.0 in
      let back = sound.lines c.at c.line c.here in
      let call : is_call (next_of c.line) ≡ true = served_call img.is_growth_routine (next_of c.line) c.served in
      let behind = back.behind (call_passes (next_of c.line) call) in
      let q : Line = behind.0 in
      let follows : Follows c.line q = behind.2 in
      let none = (back.still (call_not_fall (next_of c.line) call)).1 in
      let follow = follows.depth in
      let depth : q.depth ≡ c.line.depth = omega (arith, ints) in
      let span : span_in c.line ≡ 1 = ap span_of c.plain in
      let inside = back.inside in
      let deep : in_link img q.depth ≡ false = ap (in_link img) depth ∙ c.deep in
      let base = c.base in
      let place : slot_place img (sp_of img n.state) q.depth ≡ slot_place img (frame.base + pushed img) c.line.depth =
      ap (λ (s : ℕ). slot_place img s q.depth) sp ∙ ap (slot_place img (frame.base + pushed img)) depth in
      record {
        state = then_state;
        line = q;
        here = ap img.line_at (resumes.pc ∙ is ∙ c.ret) ∙ behind.1;
        frame = y;
        further = others;
        calls = resumes.calls ∙ resumes.stands;
        inner = inner_anew img q n.state y then_state (follows.anew (omega arith)) (c.entry ∙ sym follows.entry) (record {
          base = omega arith;
          low = c.low;
          link = λ shallow. absurd (cc (shallow, deep));
          unsaved_slot = λ shallow. absurd (cc (shallow, deep));
          slot = λ deep. c.slot ∙ ap Some (sym place);
          word = λ deep. ap (word_at n.state.mem) place ∙ stands.1;
        });
        standing = stands.2;
      }

  -- at depth 0, where a function returns to
  base_at_zero : p.depth ≡ 0 → frame.base ≡ sp_of img m.state
  base_at_zero level = let base = inner.holds.base in omega arith

  shallow_here : p.depth ≡ 0 → has_link img ≡ true → in_link img p.depth ≡ true
  shallow_here level some = ap (in_link img) level ∙ shallow_linked img some

  place_here : p.depth ≡ 0 → has_link img ≡ false → slot_place img (sp_of img m.state) p.depth ≡ sp_of img m.state
  place_here level none =
      let same : sp_of img m.state + p.depth ≡ sp_of img m.state = omega arith in
      place_unlinked img (sp_of img m.state) p.depth none ∙ same

  pub returns : Returns img p frame further m n → IsKnown img n
  returns way =
      let level : p.depth ≡ 0 = line_sound.returns way.goes in
      let not_fall = return_not_fall (next_of p) way.goes in
      let keep = (line_sound.still not_fall).0 in
      let same : sp_of img way.between ≡ sp_of img m.state =
      sp_kept img p.part.effect p.part.past m.state way.between way.applies keep in
      let popped = pops_sp img way.between n.state then_state sound.registers.sp (has_link img) refl way.pops in
      let base = base_at_zero level in
      let up = popped.0 in
      resumed way.value (value_is (has_link img) refl level same not_fall popped.1) way.resumes (omega arith)
    where
      alone : ¬ (next_of p ≡ next.Fall) → p.role ≡ Plain
      alone not_fall =
          elim (ends_alone img m.state.pc p line_sound not_fall) as (λ _. p.role ≡ Plain) [
            | inl plain ↦ plain
            | inr call ↦
                absurd (cc (
                  growth_last img m.state.pc p line_sound call.0 call.1 call.2,
                  return_no_call img.is_growth_routine (next_of p) way.goes,
                ))
          ]

      value_is : (some : Bool) → has_link img ≡ some → p.depth ≡ 0 → sp_of img way.between ≡ sp_of img m.state
          → ¬ (next_of p ≡ next.Fall) → n.state.mem ≡ way.between.mem → way.value ≡ frame.ret
      value_is true some level same not_fall memory =
          (let kept : link_in img way.between ≡ link_in img m.state =
          link_kept img p.part.effect p.part.past m.state way.between way.applies some
          ((plain_line (alone not_fall) some).unwritten level) in
          let held = inner.holds.link (shallow_here level some) in
          let back = sym (return_linked img way.between some) ∙ way.back in
          let there : link_in img way.between ≡ way.value = cc in
          sym there ∙ kept ∙ held)
      value_is false none level same not_fall memory =
          (let word : word_at n.state.mem (slot_place img (sp_of img m.state) p.depth) ≡ Some frame.ret =
          own_word (deep_unlinked img p.depth none) in
          let back = sym (return_unlinked img way.between none) ∙ way.back in
          let place = place_here level none in
          let found : Some way.value ≡ Some frame.ret =
          sym back ∙ ap (word_at way.between.mem) same ∙ ap (λ (memory : Memory). word_at memory (sp_of img m.state)) (sym memory)
          ∙ ap (word_at n.state.mem) (sym place) ∙ word in
          cc)

  pub leaves : Leaves img p frame further m n → KeepsJump img m n → IsKnown img n
  leaves way kept =
      let level : p.depth ≡ 0 =
      elim (jump_cases m.state way.loaded (next_of p) way.goal way.goes) as (λ _. p.depth ≡ 0) [
        | inl direct ↦ line_sound.leaves way.goal direct way.outside
        | inr indirect ↦ line_sound.indirect indirect
      ] in
      let base = base_at_zero level in
      let up = kept.sp in
      resumed way.value (value_is (has_link img) refl level) way.resumes (omega arith)
    where
      value_is : (some : Bool) → has_link img ≡ some → p.depth ≡ 0 → way.value ≡ frame.ret
      value_is true some level =
          (let held = inner.holds.link (shallow_here level some) in
          let back = sym (return_linked img m.state some) ∙ way.back in
          let there : link_in img m.state ≡ way.value = cc in
          sym there ∙ held)
      value_is false none level =
          (let held = inner.holds.word (deep_unlinked img p.depth none) in
          let back = sym (return_unlinked img m.state none) ∙ way.back in
          let place = place_here level none in
          let found : Some way.value ≡ Some frame.ret = sym back ∙ ap (word_at m.state.mem) (sym place) ∙ held in
          cc)

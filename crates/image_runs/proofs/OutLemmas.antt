-- Calls into the image, and calls to the outside.
use Rattle.std.proofs.Common.{◌≡◌, ◌⊎◌, ℕ, suc, ◌+◌, ◌-◌, ◌*◌, ◌<◌, ◌^◌, ◌%◌, ◌==◌, ◌&&◌, Bool, true, false, List, ◌∷◌, Option, Some, None, is_some, refl, sym, ap, ◌∙◌, subst, arith, inl, inr, if◌then◌else◌}
use Rattle.std.proofs.lemmas.Int.{ints}
use Rattle.machine_effect.specs.declared.frame.Frame.{Frame}
use Rattle.machine_effect.specs.declared.next.Next.{Next}
use Rattle.machine_effect.specs.declared.next.Next.TheVariants as next
use Rattle.machine_effect.specs.declared.state.State.{State}
use Rattle.machine_effect.specs.Applies.{IsState, link_of}
use Rattle.machine_effect.specs.Memory.{word_at}
use Rattle.machine_effect.specs.Values.{reg_of}
use Rattle.machine_effect.proofs.StateLemmas.{number_at-put}
use Rattle.machine_effect.proofs.StepLemmas.{links}
use Rattle.asm_target.specs.declared.sequence.Sequence.{Sequence}
use Rattle.asm_target.specs.declared.sequence.Sequence.TheVariants.{Plain, Growth}
use Rattle.asm_target.specs.DepthChange.{is_call}
use Rattle.asm_target.specs.FlowRules.{can_pass}
use Rattle.asm_target.specs.Runs.{Leads}
use Rattle.asm_target.specs.Sequences.{span_of}
use Rattle.image_model.specs.Actions.{ActsAs}
use Rattle.image_model.specs.Image.{Image, Line, has_link, is_growth_call, next_of}
use Rattle.image_model.specs.Kept.{KeepsCall, SlotsStay}
use Rattle.image_model.specs.Soundness.{Follows, IsPlainLine, IsSound, IsSoundLine, span_in}
use Rattle.image_model.specs.Steps.{Asks, AsksOutside, Calls, Moment, PushesReturn, called, link_in, pushed, register_or_zero, sp_of}
use Rattle.image_runs.specs.Known.{Holds, IsInner, IsKnown, Standing, in_link, slot_by, slot_place}
use Rattle.image_runs.proofs.CallLemmas as calls
use Rattle.image_runs.proofs.CallLemmas.{call_not_fall, call_passes, calls_is, growth_goal, pushed_linked, pushed_unlinked, pushes_sp, serves}
use Rattle.image_runs.proofs.EffectLemmas.{sp_kept}
use Rattle.image_runs.proofs.GoingLemmas.{ends_alone, growth_last}
use Rattle.image_runs.proofs.InsideLemmas.{shallow_zero}
use Rattle.image_runs.proofs.LastLemmas.{deep_below, deep_unlinked, inner_anew, place_unlinked, shallow_linked}

asks_passes : (p : Line) (frame : Frame) (further : List Frame) (img : Image) (m n : Moment) (loaded : ℕ) (goes : Next)
    → AsksOutside img p frame further m n loaded goes → can_pass goes ≡ true
asks_passes p frame further img m n loaded next.System asks = refl
asks_passes p frame further img m n loaded (next.Call goal link) asks = refl
asks_passes p frame further img m n loaded (next.CallTo goal link) asks = refl
asks_passes p frame further img m n loaded next.Fall asks = absurd asks
asks_passes p frame further img m n loaded (next.Branch held goal) asks = absurd asks
asks_passes p frame further img m n loaded (next.Jump goal) asks = absurd asks
asks_passes p frame further img m n loaded (next.JumpTo goal) asks = absurd asks
asks_passes p frame further img m n loaded next.Return asks = absurd asks
asks_passes p frame further img m n loaded next.Stop asks = absurd asks

asks_not_fall : (p : Line) (frame : Frame) (further : List Frame) (img : Image) (m n : Moment) (loaded : ℕ) (goes : Next)
    → AsksOutside img p frame further m n loaded goes → ¬ (goes ≡ next.Fall)
asks_not_fall p frame further img m n loaded goes asks falls =
    subst (λ (goes : Next). AsksOutside img p frame further m n loaded goes) falls asks

-- it's the system or a call
asks_cases : (p : Line) (frame : Frame) (further : List Frame) (img : Image) (m n : Moment) (loaded : ℕ) (goes : Next)
    → AsksOutside img p frame further m n loaded goes → (goes ≡ next.System) ⊎ (is_call goes ≡ true)
asks_cases p frame further img m n loaded next.System asks = inl refl
asks_cases p frame further img m n loaded (next.Call goal link) asks = inr refl
asks_cases p frame further img m n loaded (next.CallTo goal link) asks = inr refl
asks_cases p frame further img m n loaded next.Fall asks = absurd asks
asks_cases p frame further img m n loaded (next.Branch held goal) asks = absurd asks
asks_cases p frame further img m n loaded (next.Jump goal) asks = absurd asks
asks_cases p frame further img m n loaded (next.JumpTo goal) asks = absurd asks
asks_cases p frame further img m n loaded next.Return asks = absurd asks
asks_cases p frame further img m n loaded next.Stop asks = absurd asks

module _ (img : Image) (sound : IsSound img) (m n : Moment) (state : IsState m.state) (then_state : IsState n.state) (p : Line)
    (here : img.line_at m.state.pc ≡ Some p) (frame : Frame) (further : List Frame) (stack : m.calls ≡ frame ∷ further)
    (inner : IsInner img p m.state frame) (standing : Standing img m.state.mem frame further)
    (stay : SlotsStay m.state.mem n.state.mem (frame ∷ further)) where
  line_sound : IsSoundLine img m.state.pc p
  line_sound = sound.lines m.state.pc p here

  still_standing : Standing img n.state.mem frame further
  still_standing = calls.still_standing img sound m n state then_state p here frame further stack inner standing stay

  own_word : in_link img p.depth ≡ false → word_at n.state.mem (slot_place img (sp_of img m.state) p.depth) ≡ Some frame.ret
  own_word = calls.own_word img sound m n state then_state p here frame further stack inner standing stay

  plain_line : p.role ≡ Plain → has_link img ≡ true → IsPlainLine img p
  plain_line = calls.plain_line img sound m n state then_state p here frame further stack inner standing stay

  pub asks : Asks img p frame further m n → KeepsCall img p m n → IsKnown img n
  asks way kept =
      let not_fall = asks_not_fall p frame further img m n way.loaded (next_of p) way.goes in
      let behind = line_sound.behind (asks_passes p frame further img m n way.loaded (next_of p) way.goes) in
      let q : Line = behind.0 in
      let follows : Follows p q = behind.2 in
      let none = (line_sound.still not_fall).1 in
      let follow = follows.depth in
      let depth : q.depth ≡ p.depth = omega (arith, ints) in
      let sp = kept.sp in
      let base = inner.holds.base in
      let place : slot_place img (sp_of img n.state) q.depth ≡ slot_place img (sp_of img m.state) p.depth =
      ap (λ (s : ℕ). slot_place img s q.depth) sp ∙ ap (slot_place img (sp_of img m.state)) depth in
      record {
        state = then_state;
        line = q;
        here = ap img.line_at way.pc ∙ behind.1;
        frame = frame;
        further = further;
        calls = way.calls ∙ stack;
        inner = inner_anew img q n.state frame then_state (follows.anew (last not_fall)) (inner.entry ∙ sym follows.entry) (record {
          base = omega arith;
          low = inner.holds.low;
          link = λ shallow. link_is not_fall (ap (in_link img) (sym depth) ∙ shallow);
          unsaved_slot = λ shallow. unsaved not_fall (ap (in_link img) (sym depth) ∙ shallow);
          slot = λ deep. inner.holds.slot (ap (in_link img) (sym depth) ∙ deep) ∙ ap Some (sym place);
          word = λ deep. ap (word_at n.state.mem) place ∙ own_word (ap (in_link img) (sym depth) ∙ deep);
        });
        standing = still_standing;
      }
    where
      last : ¬ (next_of p ≡ next.Fall) → suc p.index ≡ span_in p
      last not_fall =
          elim (ends_alone img m.state.pc p line_sound not_fall) as (λ _. suc p.index ≡ span_in p) [
            | inl plain ↦ (let span : span_in p ≡ 1 = ap span_of plain in let inside = line_sound.inside in omega arith)
            | inr call ↦ call.2
          ]

      unsaved : ¬ (next_of p ≡ next.Fall) → in_link img p.depth ≡ true → frame.slot ≡ None
      unsaved not_fall shallow =
          elim (ends_alone img m.state.pc p line_sound not_fall) as (λ _. frame.slot ≡ None) [
            | inl plain ↦
                inner.holds.unsaved_slot shallow
                ∙ ap (λ (role : Sequence). slot_by img role p.parts p.index (sp_of img m.state)) plain
            | inr call ↦
                inner.holds.unsaved_slot shallow
                ∙ ap (λ (role : Sequence). slot_by img role p.parts p.index (sp_of img m.state)) call.1
          ]

      linked : in_link img p.depth ≡ true → has_link img ≡ true
      linked shallow = first_on (has_link img) (p.depth == 0) shallow
        where
          first_on : (one other : Bool) → (one && other) ≡ true → one ≡ true
          first_on true other is = refl
          first_on false other is = absurd (cc)

      plain_link : p.role ≡ Plain → in_link img p.depth ≡ true → link_in img n.state ≡ frame.ret
      plain_link plain shallow =
          elim (asks_cases p frame further img m n way.loaded (next_of p) way.goes) as (λ _. link_in img n.state ≡ frame.ret) [
            | inl system ↦ kept.system system (linked shallow) ∙ inner.holds.link shallow
            | inr call ↦
                (let more = ((plain_line plain (linked shallow)).calls call).0 in
                let none = shallow_zero (has_link img) p.depth shallow in
                absurd (omega arith))
          ]

      growth_link : (count : ℕ) → p.role ≡ Growth count → suc p.index ≡ span_in p → in_link img p.depth ≡ true
          → (link growth : Option ℕ) → img.shape.link ≡ link → img.growth ≡ growth → ActsAs img.shape p.parts link growth (Growth count)
          → link_in img n.state ≡ frame.ret
      growth_link count role end shallow (Some link) (Some growth) named grown acts =
          (let span : span_in p ≡ count - 1 = ap span_of role in
          let most = acts.most in
          let index : p.index ≡ count - 2 = omega arith in
          let began = inner.began in
          let ran : Leads p.parts (count - 2) began.start m.state =
          subst (λ (k : ℕ). Leads p.parts k began.start m.state) index began.came in
          let call = growth_last img m.state.pc p line_sound count role end in
          kept.growth call growth grown ∙ acts.hands began.start m.state began.fine ran
          ∙ ap (λ (l : Option ℕ). reg_of began.start (register_or_zero l)) (sym named) ∙ began.link shallow)
      growth_link count role end shallow (Some link) None named grown acts = absurd acts
      growth_link count role end shallow None growth named grown acts = absurd acts

      link_is : ¬ (next_of p ≡ next.Fall) → in_link img p.depth ≡ true → link_in img n.state ≡ frame.ret
      link_is not_fall shallow =
          elim (ends_alone img m.state.pc p line_sound not_fall) as (λ _. link_in img n.state ≡ frame.ret) [
            | inl plain ↦ plain_link plain shallow
            | inr call ↦
                growth_link call.0 call.1 call.2 shallow img.shape.link img.growth refl refl
                (subst (λ (r : Sequence). ActsAs img.shape p.parts img.shape.link img.growth r) call.1 line_sound.acts)
          ]

  -- a call of a function of the image
  pub call : Calls img p frame further m n → IsKnown img n
  call way =
      let goal : ℕ = way.goal in
      let loaded : ℕ = way.applies.loaded in
      let is : is_call (next_of p) ≡ true = calls_is m.state loaded (next_of p) goal way.goes in
      let not_fall = call_not_fall (next_of p) is in
      let first = sound.entries goal way.entry in
      let q : Line = first.0 in
      let no_growth = other_call first.0 first.1 in
      let plain : p.role ≡ Plain = alone not_fall no_growth in
      let keep = (line_sound.still not_fall).0 in
      let same : sp_of img way.between ≡ sp_of img m.state =
      sp_kept img p.part.effect p.part.past m.state way.between way.applies keep in
      let under : sp_of img n.state + pushed img ≡ sp_of img m.state =
      pushes_sp img p.part.past way.between n.state then_state sound.registers.sp (has_link img) refl way.pushes ∙ same in
      let deep : in_link img p.depth ≡ false = deep_here plain is (has_link img) refl in
      let base = inner.holds.base in
      let low : sp_of img n.state < 2 ^ 64 = then_state.regs img.shape.sp in
      let new : Frame = called img goal m.state.pc p.part.past (sp_of img n.state) in
      let place : slot_place img (sp_of img n.state + pushed img) p.depth ≡ slot_place img (sp_of img m.state) p.depth =
      ap (λ (s : ℕ). slot_place img s p.depth) under in
      record {
        state = then_state;
        line = q;
        here = ap img.line_at way.pc ∙ first.1;
        frame = new;
        further = frame ∷ further;
        calls = way.calls ∙ ap (λ (more : List Frame). new ∷ more) stack;
        inner =
            inner_anew img q n.state new then_state first.2.index (sym first.2.entry)
            (subst (λ (d : ℕ). Holds img d None n.state new) (sym first.2.depth)
            (new_holds low (has_link img) refl plain is way.pushes));
        standing = (
          record {
            at = m.state.pc;
            line = p;
            call = refl;
            here = here;
            served = serves img.is_growth_routine (next_of p) is no_growth;
            plain = plain;
            deep = deep;
            entry = inner.entry;
            ret = refl;
            base = omega arith;
            low = inner.holds.low;
            slot = inner.holds.slot deep ∙ ap Some (sym place);
          },
          ap (word_at n.state.mem) place ∙ own_word deep,
          still_standing,
        );
      }
    where
      other_call : (q : Line) → img.line_at way.goal ≡ Some q → is_growth_call img.is_growth_routine (next_of p) ≡ false
      other_call q there = by (is_growth_call img.is_growth_routine (next_of p)) refl
        where
          by : (b : Bool) → is_growth_call img.is_growth_routine (next_of p) ≡ b → is_growth_call img.is_growth_routine (next_of p) ≡ false
          by true grows =
              absurd (cc (
                sound.inside way.goal q there,
                sound.growth way.goal (growth_goal img.is_growth_routine m.state way.applies.loaded (next_of p) way.goal way.goes grows),
              ))
          by false grows = grows

      alone : ¬ (next_of p ≡ next.Fall) → is_growth_call img.is_growth_routine (next_of p) ≡ false → p.role ≡ Plain
      alone not_fall other =
          elim (ends_alone img m.state.pc p line_sound not_fall) as (λ _. p.role ≡ Plain) [
            | inl plain ↦ plain
            | inr call ↦ absurd (cc (growth_last img m.state.pc p line_sound call.0 call.1 call.2, other))
          ]

      deep_here : p.role ≡ Plain → is_call (next_of p) ≡ true → (some : Bool) → has_link img ≡ some → in_link img p.depth ≡ false
      deep_here plain is true some = deep_below img p.depth ((plain_line plain some).calls is).0
      deep_here plain is false none = deep_unlinked img p.depth none

      past_low : is_call (next_of p) ≡ true → p.part.past < 2 ^ 64
      past_low is =
          (let behind = line_sound.behind (call_passes (next_of p) is) in
          sound.low p.part.past behind.0 behind.1)

      linked_to : (link : Option ℕ) → img.shape.link ≡ link → is_some link ≡ true → link_of (next_of p) ≡ img.shape.link
          → reg_of way.between (register_or_zero link) ≡ p.part.past
      linked_to (Some link) named some made =
          links p.part.effect link (made ∙ named) p.part.past m.state way.between state (sound.registers.link link named).0 way.applies
      linked_to None named some made = absurd (cc)

      new_holds : sp_of img n.state < 2 ^ 64 → (some : Bool) → has_link img ≡ some → p.role ≡ Plain → is_call (next_of p) ≡ true
          → PushesReturn img some p.part.past way.between n.state
          → Holds img 0 None n.state (called img way.goal m.state.pc p.part.past (sp_of img n.state))
      new_holds low true some plain is same =
          (let made = ((plain_line plain some).calls is).1 in
          let slot : (if has_link img then None else Some (sp_of img n.state)) ≡ None = rw some refl in
          record {
            base = omega arith;
            low = low;
            link = λ shallow. ap (λ (s : State). link_in img s) same ∙ linked_to img.shape.link refl some made;
            unsaved_slot = λ shallow. slot;
            slot = λ deep. absurd (cc (deep, shallow_linked img some));
            word = λ deep. absurd (cc (deep, shallow_linked img some));
          })
      new_holds low false none plain is pushes =
          (let eight = pushed_unlinked img none in
          let under = pushes_sp img p.part.past way.between n.state then_state sound.registers.sp false none pushes in
          let room = pushes.room in
          let place : slot_place img (sp_of img n.state) 0 ≡ sp_of img n.state + 0 = place_unlinked img (sp_of img n.state) 0 none in
          let at : sp_of img n.state + 0 ≡ sp_of img way.between - 8 = omega arith in
          let straight : sp_of img n.state ≡ sp_of img n.state + 0 = omega arith in
          let slot : (if has_link img then None else Some (sp_of img n.state)) ≡ Some (sp_of img n.state) = rw none refl in
          let past = past_low is in
          let low_past : p.part.past % 2 ^ (8 * 8) ≡ p.part.past = omega arith in
          record {
            base = omega arith;
            low = low;
            link = λ shallow. absurd (cc (shallow, deep_unlinked img 0 none));
            unsaved_slot = λ shallow. absurd (cc (shallow, deep_unlinked img 0 none));
            slot = λ deep. slot ∙ ap Some (straight ∙ sym place);
            word = λ deep.
                ap (word_at n.state.mem) (place ∙ at)
                ∙ ap (λ (s : State). word_at s.mem (sp_of img way.between - 8)) pushes.same
                ∙ number_at-put way.between.mem (sp_of img way.between - 8) 8 p.part.past ∙ ap Some low_past;
          })

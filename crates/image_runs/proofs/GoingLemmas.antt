-- Instructions that go on in the same frame.
use Rattle.std.proofs.Common.{◌≡◌, ◌⊎◌, ℕ, suc, pos, ◌+◌, ◌-◌, ◌<◌, ◌≤◌, ◌^◌, Bool, true, false, List, [], ◌∷◌, Option, Some, None, refl, sym, ap, ◌∙◌, subst, arith, inl, inr, if◌then◌else◌}
use Rattle.std.proofs.lemmas.Bool.{cases_order}
use Rattle.std.proofs.lemmas.Int.{ints}
use Rattle.std.specs.Prelude.{IfSome, ◌+ℤ◌}
use Rattle.machine_effect.specs.declared.frame.Frame.{Frame}
use Rattle.machine_effect.specs.declared.next.Next.{Next}
use Rattle.machine_effect.specs.declared.next.Next.TheVariants as next
use Rattle.machine_effect.specs.declared.state.State.{State}
use Rattle.machine_effect.specs.Applies.{IsState}
use Rattle.machine_effect.specs.Memory.{Memory, word_at}
use Rattle.machine_effect.specs.Stores.{BytesStay}
use Rattle.machine_effect.specs.Values.{holds}
use Rattle.asm_target.specs.declared.sequence.Sequence.{Sequence}
use Rattle.asm_target.specs.declared.sequence.Sequence.TheVariants.{Plain, Saving, Restoring, Growth}
use Rattle.asm_target.specs.FlowFunction.{is_within, jump_goal}
use Rattle.asm_target.specs.FlowRules.{can_pass, is_indirect_jump}
use Rattle.asm_target.specs.Runs.{PlacedEffect}
use Rattle.asm_target.specs.Sequences.{span_of}
use Rattle.image_model.specs.Actions.{ActsAs}
use Rattle.image_model.specs.Image.{Image, Line, is_growth_call, next_of}
use Rattle.image_model.specs.Kept.{SlotsStay}
use Rattle.image_model.specs.Soundness.{Follows, IsSound, IsSoundLine, SuitsRole, span_in}
use Rattle.image_model.specs.Steps.{GoesOn, HasRoom, Jumps, Moment, entered, frame_after, jumps_to, passes, pushed}
use Rattle.image_model.proofs.ActionLemmas.{growth_most}
use Rattle.image_runs.specs.Known.{Holds, IsInner, IsKnown, Standing, slot_place}
use Rattle.image_runs.proofs.EffectLemmas.{slot_first, slots_behind, stands_on}
use Rattle.image_runs.proofs.InsideLemmas.{inner_inside}
use Rattle.image_runs.proofs.LastLemmas.{inner_anew, last_holds, plain_holds}

passes_on : (state : State) (loaded : ℕ) (goes : Next) → passes state loaded goes ≡ true → can_pass goes ≡ true
passes_on state loaded next.Fall is = refl
passes_on state loaded (next.Branch held goal) is = refl
passes_on state loaded (next.Jump goal) is = absurd (cc)
passes_on state loaded (next.JumpTo goal) is = absurd (cc)
passes_on state loaded (next.Call goal link) is = absurd (cc)
passes_on state loaded (next.CallTo goal link) is = absurd (cc)
passes_on state loaded next.Return is = absurd (cc)
passes_on state loaded next.System is = absurd (cc)
passes_on state loaded next.Stop is = absurd (cc)

-- a call isn't passed
passes_no_call : (is_routine : ℕ → Bool) (state : State) (loaded : ℕ) (goes : Next) → passes state loaded goes ≡ true
    → is_growth_call is_routine goes ≡ false
passes_no_call is_routine state loaded next.Fall is = refl
passes_no_call is_routine state loaded (next.Branch held goal) is = refl
passes_no_call is_routine state loaded (next.Jump goal) is = absurd (cc)
passes_no_call is_routine state loaded (next.JumpTo goal) is = absurd (cc)
passes_no_call is_routine state loaded (next.Call goal link) is = absurd (cc)
passes_no_call is_routine state loaded (next.CallTo goal link) is = absurd (cc)
passes_no_call is_routine state loaded next.Return is = absurd (cc)
passes_no_call is_routine state loaded next.System is = absurd (cc)
passes_no_call is_routine state loaded next.Stop is = absurd (cc)

-- a jump is a direct one or not, and no call
pub jump_cases : (state : State) (loaded : ℕ) (goes : Next) (goal : ℕ) → jumps_to state loaded goes ≡ Some goal
    → (jump_goal goes ≡ Some goal) ⊎ (is_indirect_jump goes ≡ true)
jump_cases state loaded (next.Branch held there) goal is = inl (by (holds state loaded held) is)
  where
    by : (b : Bool) → (if b then Some there else None) ≡ Some goal → Some there ≡ Some goal
    by true is = is
    by false is = absurd (cc)
jump_cases state loaded (next.Jump there) goal is = inl is
jump_cases state loaded (next.JumpTo there) goal is = inr refl
jump_cases state loaded next.Fall goal is = absurd (cc)
jump_cases state loaded (next.Call there link) goal is = absurd (cc)
jump_cases state loaded (next.CallTo there link) goal is = absurd (cc)
jump_cases state loaded next.Return goal is = absurd (cc)
jump_cases state loaded next.System goal is = absurd (cc)
jump_cases state loaded next.Stop goal is = absurd (cc)

pub jumps_no_call : (is_routine : ℕ → Bool) (state : State) (loaded : ℕ) (goes : Next) (goal : ℕ) → jumps_to state loaded goes ≡ Some goal
    → is_growth_call is_routine goes ≡ false
jumps_no_call is_routine state loaded (next.Branch held there) goal is = refl
jumps_no_call is_routine state loaded (next.Jump there) goal is = refl
jumps_no_call is_routine state loaded (next.JumpTo there) goal is = refl
jumps_no_call is_routine state loaded next.Fall goal is = refl
jumps_no_call is_routine state loaded (next.Call there link) goal is = absurd (cc)
jumps_no_call is_routine state loaded (next.CallTo there link) goal is = refl
jumps_no_call is_routine state loaded next.Return goal is = refl
jumps_no_call is_routine state loaded next.System goal is = refl
jumps_no_call is_routine state loaded next.Stop goal is = refl

pub jumps_not_fall : (state : State) (loaded : ℕ) (goes : Next) (goal : ℕ) → jumps_to state loaded goes ≡ Some goal → ¬ (goes ≡ next.Fall)
jumps_not_fall state loaded goes goal is falls = cc (is, ap (jumps_to state loaded) falls)

module _ (img : Image) where
  -- of a frame only its call, base and return address matter to those outside
  pub standing_same : (memory : Memory) (inner other : Frame) → other.call ≡ inner.call → other.base ≡ inner.base → other.ret ≡ inner.ret
      → (more : List Frame) → Standing img memory inner more → Standing img memory other more
  standing_same memory inner other call base ret [] standing = (call ∙ standing.0, ap (is_within img.text) ret ∙ standing.1)
  standing_same memory inner other call base ret (outer ∷ more) standing =
      let c = standing.0 in
      let above : ℕ = pushed img in (
        record {
          at = c.at;
          line = c.line;
          call = call ∙ c.call;
          here = c.here;
          served = c.served;
          plain = c.plain;
          deep = c.deep;
          entry = c.entry;
          ret = ret ∙ c.ret;
          base = c.base ∙ ap (λ (b : ℕ). b + above + c.line.depth) (sym base);
          low = c.low;
          slot = c.slot ∙ ap (λ (b : ℕ). Some (slot_place img (b + above) c.line.depth)) (sym base);
        },
        ap (λ (b : ℕ). word_at memory (slot_place img (b + above) c.line.depth)) base ∙ standing.1,
        standing.2,
      )

  pub holds_same : (depth : ℕ) (state : State) (frame other : Frame) → other.base ≡ frame.base → other.slot ≡ frame.slot
      → other.ret ≡ frame.ret → Holds img depth None state frame → Holds img depth None state other
  holds_same depth state frame other base slot ret is = record {
    base = base ∙ is.base;
    low = subst (λ (b : ℕ). b < 2 ^ 64) (sym base) is.low;
    link = λ shallow. is.link shallow ∙ sym ret;
    unsaved_slot = λ shallow. slot ∙ is.unsaved_slot shallow;
    slot = λ deep. slot ∙ is.slot deep;
    word = λ deep. is.word deep ∙ ap Some (sym ret);
  }

  -- what the last instruction of a sequence that grows the stack does
  pub growth_last : (at : ℕ) (p : Line) → IsSoundLine img at p → (count : ℕ) → p.role ≡ Growth count → suc p.index ≡ span_in p
      → is_growth_call img.is_growth_routine (next_of p) ≡ true
  growth_last at p sound count role last =
      let span : span_in p ≡ count - 1 = ap span_of role in
      let suits = subst (λ (r : Sequence). SuitsRole img r p) role sound.suits in
      let acts = subst (λ (r : Sequence). ActsAs img.shape p.parts img.shape.link img.growth r) role sound.acts in
      let most = growth_most img.shape p.parts img.shape.link img.growth count acts in
      let index : count - 2 ≡ p.index = omega arith in
      sym (ap (λ (part : PlacedEffect). is_growth_call img.is_growth_routine part.effect.next) (ap p.parts index ∙ sound.part)) ∙ suits.1

  -- an instruction behind which the machine doesn't go on stands alone, or is the call of a sequence that grows the stack
  pub ends_alone : (at : ℕ) (p : Line) → IsSoundLine img at p → ¬ (next_of p ≡ next.Fall)
      → (p.role ≡ Plain) ⊎ ((count : ℕ) × (p.role ≡ Growth count) × (suc p.index ≡ span_in p))
  ends_alone at p sound ends = by img.shape.link img.growth p.role refl sound.acts
    where
      off : ¬ ((p.parts p.index).effect.next ≡ next.Fall)
      off falls = ends (ap (λ (part : PlacedEffect). part.effect.next) (sym sound.part) ∙ falls)

      last : (count : ℕ) → p.role ≡ Growth count → 2 ≤ count → (p.index < count - 2 → ⊥) → suc p.index ≡ span_in p
      last count is most not_before =
          (let span : span_in p ≡ count - 1 = ap span_of is in
          elim (cases_order p.index (count - 2)) as (λ _. suc p.index ≡ span_in p) [
            | inl same ↦ omega arith
            | inr (inl less) ↦ absurd (not_before less)
            | inr (inr more) ↦ absurd (omega (arith, sound.inside))
          ])

      by : (link growth : Option ℕ) (role : Sequence) → p.role ≡ role → ActsAs img.shape p.parts link growth role
          → (p.role ≡ Plain) ⊎ ((count : ℕ) × (p.role ≡ Growth count) × (suc p.index ≡ span_in p))
      by link growth Plain is acts = inl is
      by (Some link) growth (Saving count total) is acts =
          absurd (off (acts.1.falls p.index (subst (λ (n : ℕ). p.index < n) (ap span_of is) sound.inside)))
      by (Some link) growth (Restoring count total) is acts =
          absurd (off (acts.1.falls p.index (subst (λ (n : ℕ). p.index < n) (ap span_of is) sound.inside)))
      by (Some link) (Some growth) (Growth count) is acts =
          inr (count, is, last count is acts.most (λ less. off (acts.falls p.index less)))
      by (Some link) None (Growth count) is acts = absurd acts
      by None growth (Saving count total) is acts = absurd acts
      by None growth (Restoring count total) is acts = absurd acts
      by None growth (Growth count) is acts = absurd acts

module _ (img : Image) (sound : IsSound img) (m n : Moment) (state : IsState m.state) (then_state : IsState n.state) (p : Line)
    (here : img.line_at m.state.pc ≡ Some p) (frame : Frame) (further : List Frame) (calls : m.calls ≡ frame ∷ further)
    (room : HasRoom img p m.state) (inner : IsInner img p m.state frame) (standing : Standing img m.state.mem frame further)
    (stay : SlotsStay m.state.mem n.state.mem (frame ∷ further)) where
  line_sound : IsSoundLine img m.state.pc p
  line_sound = sound.lines m.state.pc p here

  own_stay : IfSome frame.slot (λ slot. BytesStay m.state.mem n.state.mem slot 8)
  own_stay = slot_first (λ slot. BytesStay m.state.mem n.state.mem slot 8) frame further stay

  still_standing : Standing img n.state.mem frame further
  still_standing =
      stands_on img m.state.mem n.state.mem frame further
      (slots_behind (λ slot. BytesStay m.state.mem n.state.mem slot 8) frame further stay) standing

  pub goes_on : GoesOn img p frame further m n → IsKnown img n
  goes_on way =
      let pass = passes_on m.state way.applies.loaded (next_of p) way.goes in
      let behind = line_sound.behind pass in
      let q : Line = behind.0 in
      let follows : Follows p q = behind.2 in
      let after : Frame = frame_after img p m.state n.state way.applies.loaded frame in
      record {
        state = then_state;
        line = q;
        here = ap img.line_at way.pc ∙ behind.1;
        frame = after;
        further = further;
        calls = way.calls;
        inner =
            (elim (cases_order (suc p.index) (span_in p)) as (λ _. IsInner img q n.state after) [
              | inr (inl less) ↦
                  inner_inside img m.state.pc p q line_sound follows m.state n.state frame way.applies less inner own_stay
              | inr (inr more) ↦ absurd (omega (arith, line_sound.inside))
              | inl last ↦
                  inner_anew img q n.state after then_state (follows.anew last) (inner.entry ∙ sym follows.entry)
                  (last_holds img sound.registers.sp m.state.pc p line_sound m.state n.state state frame inner way.applies room own_stay
                  q.depth follows.depth last
                  (λ count role. cc (
                    growth_last img m.state.pc p line_sound count role last,
                    passes_no_call img.is_growth_routine m.state way.applies.loaded (next_of p) way.goes,
                  )))
            ]);
        standing = standing_same img n.state.mem frame after refl refl refl further still_standing;
      }

  -- the frame of the function that a jump leads to
  entered_same : (goal : ℕ) (other : Frame) → ((entered img goal other).call ≡ other.call) × ((entered img goal other).base ≡ other.base)
      × ((entered img goal other).ret ≡ other.ret) × ((entered img goal other).slot ≡ other.slot)
  entered_same goal other = by (img.is_entry goal)
    where
      by : (b : Bool) → ((if b then record other { func = goal } else other).call ≡ other.call)
          × ((if b then record other { func = goal } else other).base ≡ other.base)
          × ((if b then record other { func = goal } else other).ret ≡ other.ret)
          × ((if b then record other { func = goal } else other).slot ≡ other.slot)
      by true = (refl, refl, refl, refl)
      by false = (refl, refl, refl, refl)

  pub jumps : Jumps img p frame further m n → IsKnown img n
  jumps way =
      let loaded : ℕ = way.applies.loaded in
      let after : Frame = frame_after img p m.state n.state loaded frame in
      let same = entered_same way.goal after in
      let there = landing way.goal (img.is_entry way.goal) refl in
      let q : Line = there.0 in
      let change = there.2.1 in
      let known : Holds img q.depth None n.state after =
      plain_holds img sound.registers.sp m.state.pc p line_sound m.state n.state state frame inner way.applies room own_stay q.depth
      change alone in
      record {
        state = then_state;
        line = q;
        here = ap img.line_at way.pc ∙ there.1;
        frame = entered img way.goal after;
        further = further;
        calls = way.calls;
        inner =
            inner_anew img q n.state (entered img way.goal after) then_state there.2.0 there.2.2
            (holds_same img q.depth n.state after (entered img way.goal after) same.1 same.3 same.2 known);
        standing = standing_same img n.state.mem frame (entered img way.goal after) same.0 same.1 same.2 further still_standing;
      }
    where
      not_fall : ¬ (next_of p ≡ next.Fall)
      not_fall = jumps_not_fall m.state way.applies.loaded (next_of p) way.goal way.goes

      alone : p.role ≡ Plain
      alone =
          elim (ends_alone img m.state.pc p line_sound not_fall) as (λ _. p.role ≡ Plain) [
            | inl plain ↦ plain
            | inr call ↦
                absurd (cc (
                  growth_last img m.state.pc p line_sound call.0 call.1 call.2,
                  jumps_no_call img.is_growth_routine m.state way.applies.loaded (next_of p) way.goal way.goes,
                ))
          ]

      base_depth : img.is_entry way.goal ≡ true → p.depth ≡ 0
      base_depth entry =
          elim (jump_cases m.state way.applies.loaded (next_of p) way.goal way.goes) as (λ _. p.depth ≡ 0) [
            | inl direct ↦ line_sound.enters way.goal direct entry
            | inr indirect ↦ line_sound.indirect indirect
          ]

      func_is : (goal : ℕ) (other : Frame) → img.is_entry goal ≡ true → (entered img goal other).func ≡ goal
      func_is goal other entry = rw entry refl

      func_was : (goal : ℕ) (other : Frame) → img.is_entry goal ≡ false → (entered img goal other).func ≡ other.func
      func_was goal other entry = rw entry refl

      landing : (goal : ℕ) (b : Bool) → img.is_entry way.goal ≡ b
          → (q : Line) × (img.line_at way.goal ≡ Some q)
          × ((q.index ≡ 0) × (pos q.depth ≡ pos p.depth +ℤ p.change)
          × ((entered img way.goal (frame_after img p m.state n.state way.applies.loaded frame)).func ≡ q.entry))
      landing goal true entry =
          (let first = sound.entries way.goal entry in
          let none = (line_sound.still not_fall).1 in
          let zero = base_depth entry in
          let depth = first.2.depth in (
            first.0,
            first.1,
            (
              first.2.index,
              omega (arith, ints),
              func_is way.goal (frame_after img p m.state n.state way.applies.loaded frame) entry ∙ sym first.2.entry,
            ),
          ))
      landing goal false entry =
          (let direct : jump_goal (next_of p) ≡ Some way.goal =
          elim (jump_cases m.state way.applies.loaded (next_of p) way.goal way.goes) as (λ _. jump_goal (next_of p) ≡ Some way.goal) [
            | inl direct ↦ direct
            | inr indirect ↦ absurd (cc (entry, way.entry indirect))
          ] in
          let lands = line_sound.jumps way.goal direct way.inside entry in (
            lands.0,
            lands.1,
            (
              lands.2.index,
              lands.2.depth,
              func_was way.goal (frame_after img p m.state n.state way.applies.loaded frame) entry ∙ inner.entry ∙ sym lands.2.entry,
            ),
          ))

-- An instruction of a sequence that isn't the last one.
use Rattle.std.proofs.Common.{◌≡◌, ℕ, suc, ◌<◌, ◌==◌, ◌&&◌, Bool, true, false, Option, Some, None, is_some, refl, sym, ap, ◌∙◌, subst, arith, inl, inr, if◌then◌else◌}
use Rattle.std.proofs.lemmas.Bool.{cases_order}
use Rattle.std.proofs.lemmas.Bool.Decides.{Decides-eqb}
use Rattle.std.proofs.lemmas.Int.{ints}
use Rattle.std.specs.Option.{option_map}
use Rattle.std.specs.Prelude.{IfSome}
use Rattle.machine_effect.specs.declared.effect.Access.{Access}
use Rattle.machine_effect.specs.declared.effect.Value.{Value}
use Rattle.machine_effect.specs.declared.flow.Shape.{Shape}
use Rattle.machine_effect.specs.declared.flow.SpMove.TheVariants.{Keep}
use Rattle.machine_effect.specs.declared.frame.Frame.{Frame}
use Rattle.machine_effect.specs.declared.state.State.{State}
use Rattle.machine_effect.specs.Applies.{Applies, IsState, address_of}
use Rattle.machine_effect.specs.Flow.{flow_of, of_link, stores_register}
use Rattle.machine_effect.specs.Memory.{word_at}
use Rattle.machine_effect.specs.Stores.{BytesStay}
use Rattle.machine_effect.specs.Values.{reg_of}
use Rattle.asm_target.specs.declared.sequence.Sequence.{Sequence}
use Rattle.asm_target.specs.declared.sequence.Sequence.TheVariants.{Plain, Saving, Restoring, Growth}
use Rattle.asm_target.specs.Runs.{Leads, PlacedEffect}
use Rattle.asm_target.specs.SequenceLaws.{below}
use Rattle.asm_target.specs.Sequences.{span_of}
use Rattle.image_model.specs.Actions.{ActsAs}
use Rattle.image_model.specs.Image.{Image, Line, flow_in, has_link}
use Rattle.image_model.specs.Soundness.{Follows, IsSoundLine, SuitsRole, span_in}
use Rattle.image_model.specs.Steps.{frame_after, or_stored, sp_of, stored_at}
use Rattle.image_runs.specs.Known.{IsInner, in_link, slot_by, slot_in, slot_place, stored_before}
use Rattle.image_runs.proofs.EffectLemmas.{at_slot, link_kept, sp_kept, unpassed, word_stays}

pub shallow_zero : (some : Bool) (depth : ℕ) → (some && (depth == 0)) ≡ true → depth ≡ 0
shallow_zero true depth is = (Decides-eqb depth 0).0 is
shallow_zero false depth is = absurd (cc)

-- nothing stored, no link register stored
pub none_stored : (o : Option (Access × Value)) (b : Bool) (address : Access → ℕ) → o ≡ None
    → (if b then option_map (λ (store : Access × Value). address store.0) o else None) ≡ None
none_stored o true address none = ap (option_map (λ (store : Access × Value). address store.0)) none
none_stored o false address none = refl

pub keep_stored : (slot stored : Option ℕ) → stored ≡ None → or_stored slot stored ≡ slot
keep_stored None stored none = none
keep_stored (Some at) stored none = refl

unstored_none : (shape : Shape) (parts : ℕ → PlacedEffect) (k : ℕ) → (parts k).effect.store ≡ None
    → (flow_of (parts k).effect shape).stores_link ≡ false
unfolding flow_of
unstored_none shape parts k none = by shape.link
  where
    by : (link : Option ℕ) → of_link link (λ link. stores_register link (parts k).effect.store) ≡ false
    by (Some link) = ap (stores_register link) none
    by None = refl

module _ (img : Image) (parts : ℕ → PlacedEffect) where
  -- up to its last instruction but one it leaves the stack pointer
  keeps_inside : (link growth : Option ℕ) (role : Sequence) → ActsAs img.shape parts link growth role
      → (j : ℕ) → suc j < span_of role → (flow_of (parts j).effect img.shape).sp ≡ Keep
  keeps_inside link growth Plain acts j less = absurd (omega arith)
  keeps_inside (Some link) growth (Saving count total) acts j less = acts.1.keeps j less
  keeps_inside (Some link) growth (Restoring count total) acts j less = acts.1.keeps j less
  keeps_inside (Some link) (Some growth) (Growth count) acts j less = acts.keeps j (omega arith)
  keeps_inside (Some link) None (Growth count) acts j less = absurd acts
  keeps_inside None growth (Saving count total) acts j less = absurd acts
  keeps_inside None growth (Restoring count total) acts j less = absurd acts
  keeps_inside None growth (Growth count) acts j less = absurd acts

  -- and at depth 0 the link register
  unwritten_inside : (link growth : Option ℕ) (role : Sequence) → ActsAs img.shape parts link growth role
      → (line : Line) → SuitsRole img role line → (j : ℕ) → suc j < span_of role → in_link img line.depth ≡ true
      → (flow_of (parts j).effect img.shape).writes_link ≡ false
  unwritten_inside link growth Plain acts line suits j less shallow = absurd (omega arith)
  unwritten_inside (Some link) growth (Saving count total) acts line suits j less shallow = acts.1.unwritten j (omega arith)
  unwritten_inside (Some link) growth (Restoring count total) acts line suits j less shallow =
      absurd (omega (arith, suits, shallow_zero (has_link img) line.depth shallow, acts.0.0))
  unwritten_inside (Some link) (Some growth) (Growth count) acts line suits j less shallow = acts.unwritten j (omega arith)
  unwritten_inside (Some link) None (Growth count) acts line suits j less shallow = absurd acts
  unwritten_inside None growth (Saving count total) acts line suits j less shallow = absurd acts
  unwritten_inside None growth (Restoring count total) acts line suits j less shallow = absurd acts
  unwritten_inside None growth (Growth count) acts line suits j less shallow = absurd acts

  -- where the return address is also saved, after one more instruction
  module _ (start state : State) (fine : IsState start) (loaded j : ℕ) (came : Leads parts j start state) (sp : ℕ)
      (same : reg_of start img.shape.sp ≡ sp) (slot : Option ℕ) where
    abbrev stored : Option ℕ
    stored =
        if (flow_of (parts j).effect img.shape).stores_link
        then option_map (λ (store : Access × Value). address_of state loaded store.0) (parts j).effect.store else None

    pub saving_slot : (link : ℕ) (count total : ℕ) → ActsAs img.shape parts (Some link) None (Saving count total) → suc j < suc count
        → slot ≡ slot_by img (Saving count total) parts j sp
        → or_stored slot stored ≡ slot_by img (Saving count total) parts (suc j) sp
    saving_slot link count total acts less is =
        by (stored_before img parts j) ((flow_of (parts j).effect img.shape).stores_link) refl refl
      where
        address_is : (o : Option (Access × Value)) → (parts j).effect.store ≡ o → j ≡ acts.1.position → (o ≡ None → ⊥)
            → option_map (λ (store : Access × Value). address_of state loaded store.0) o ≡ Some (below sp total)
        address_is (Some store) stores here some =
            ap Some (acts.1.place loaded start state store.0 store.1 fine (subst (λ (p : ℕ). Leads parts p start state) here came)
            (ap (λ (p : ℕ). (parts p).effect.store) (sym here) ∙ stores) ∙ ap (λ (s : ℕ). below s total) same)
        address_is None stores here some = absurd (some refl)

        by : (before now : Bool) → stored_before img parts j ≡ before → (flow_of (parts j).effect img.shape).stores_link ≡ now
            → or_stored slot stored ≡ slot_by img (Saving count total) parts (suc j) sp
        by true now had does =
            rw (is, had) refl
        by false false had does = rw (is, had, does) refl
        by false true had does =
            (let some : (parts j).effect.store ≡ None → ⊥ = λ none. cc (does, unstored_none img.shape parts j none) in
            let here : j ≡ acts.1.position =
            elim (cases_order j acts.1.position) as (λ _. j ≡ acts.1.position) [
              | inl equal ↦ equal
              | inr (inl under) ↦ absurd (some (acts.1.once j (omega arith) (λ equal. omega arith)))
              | inr (inr over) ↦ absurd (some (acts.1.once j (omega arith) (λ equal. omega arith)))
            ] in
            rw (is, had, does) (address_is (parts j).effect.store refl here some))

    inside_slot : (link growth : Option ℕ) (role : Sequence) → ActsAs img.shape parts link growth role → (line : Line)
        → SuitsRole img role line → suc j < span_of role → in_link img line.depth ≡ true → slot ≡ slot_by img role parts j sp
        → or_stored slot stored ≡ slot_by img role parts (suc j) sp
    inside_slot link growth Plain acts line suits less shallow is = absurd (omega arith)
    inside_slot (Some link) growth (Saving count total) acts line suits less shallow is =
        saving_slot link count total acts (omega arith) is
    inside_slot (Some link) growth (Restoring count total) acts line suits less shallow is =
        absurd (omega (arith, suits, shallow_zero (has_link img) line.depth shallow, acts.0.0))
    inside_slot (Some link) (Some growth) (Growth count) acts line suits less shallow is =
        keep_stored slot stored
        (none_stored (parts j).effect.store (flow_of (parts j).effect img.shape).stores_link (address_of state loaded)
        (acts.stores_nothing j (omega arith)))
        ∙ is
    inside_slot (Some link) None (Growth count) acts line suits less shallow is = absurd acts
    inside_slot None growth (Saving count total) acts line suits less shallow is = absurd acts
    inside_slot None growth (Restoring count total) acts line suits less shallow is = absurd acts
    inside_slot None growth (Growth count) acts line suits less shallow is = absurd acts

-- a sequence of more than one instruction needs a link register
linked_inside : (shape : Shape) (parts : ℕ → PlacedEffect) (link growth : Option ℕ) (role : Sequence) → ActsAs shape parts link growth role
    → 1 < span_of role → is_some link ≡ true
linked_inside shape parts link growth Plain acts less = absurd (omega arith)
linked_inside shape parts (Some link) growth role acts less = refl
linked_inside shape parts None growth (Saving count total) acts less = absurd acts
linked_inside shape parts None growth (Restoring count total) acts less = absurd acts
linked_inside shape parts None growth (Growth count) acts less = absurd acts

module _ (img : Image) (at : ℕ) (p q : Line) (sound : IsSoundLine img at p) (follows : Follows p q) (before after : State)
    (frame : Frame) (applies : Applies p.part.effect p.part.past before after) where
  -- the return address is where it was, and the sequence goes on
  pub inner_inside : suc p.index < span_in p → IsInner img p before frame → IfSome frame.slot (λ slot. BytesStay before.mem after.mem slot 8)
      → IsInner img q after (frame_after img p before after applies.loaded frame)
  inner_inside less inner stay =
      let part : p.parts p.index ≡ p.part = sound.part in
      let next = follows.inside less in
      let some : has_link img ≡ true = linked_inside img.shape p.parts img.shape.link img.growth p.role sound.acts (omega arith) in
      let keep : (flow_in img p).sp ≡ Keep =
      ap (λ (e : PlacedEffect). (flow_of e.effect img.shape).sp) (sym part)
      ∙ keeps_inside img p.parts img.shape.link img.growth p.role sound.acts p.index less in
      let sp : sp_of img after ≡ sp_of img before = sp_kept img p.part.effect p.part.past before after applies keep in
      let none = (sound.linked some).within less in
      let follow = follows.depth in
      let depth : q.depth ≡ p.depth = omega (arith, ints) in
      let loaded : ℕ = applies.loaded in
      let stored : stored_at img p before loaded ≡ (if (flow_of (p.parts p.index).effect img.shape).stores_link
      then option_map (λ (store : Access × Value). address_of before loaded store.0) (p.parts p.index).effect.store else None) =
      ap (λ (e : PlacedEffect). if (flow_of e.effect img.shape).stores_link
      then option_map (λ (store : Access × Value). address_of before loaded store.0) e.effect.store else None) (sym part) in
      let began = inner.began in
      record {
        entry = inner.entry ∙ sym follows.entry;
        holds = record {
          base = (let base = inner.holds.base in omega arith);
          low = inner.holds.low;
          link = λ shallow.
              let was : in_link img p.depth ≡ true = ap (in_link img) (sym depth) ∙ shallow in
              link_kept img p.part.effect p.part.past before after applies some
              (ap (λ (e : PlacedEffect). (flow_of e.effect img.shape).writes_link) (sym part)
              ∙ unwritten_inside img p.parts img.shape.link img.growth p.role sound.acts p sound.suits p.index less was)
              ∙ inner.holds.link was;
          unsaved_slot = λ shallow.
              let was : in_link img p.depth ≡ true = ap (in_link img) (sym depth) ∙ shallow in
              unpassed (sp_of img before) (sp_of img after) (or_stored frame.slot (stored_at img p before loaded)) (omega arith)
              ∙ ap (or_stored frame.slot) stored
              ∙ inside_slot img p.parts began.start before began.fine loaded p.index began.came (sp_of img before) began.sp frame.slot
              img.shape.link img.growth p.role sound.acts p sound.suits less was (inner.holds.unsaved_slot was)
              ∙ next_slot (sp_of img before) (sp_of img after) sp next.role next.parts next.index;
          slot = λ deep.
              let was : in_link img p.depth ≡ false = ap (in_link img) (sym depth) ∙ deep in
              let stands = inner.holds.slot was in
              unpassed (sp_of img before) (sp_of img after) (or_stored frame.slot (stored_at img p before loaded)) (omega arith)
              ∙ ap (λ (o : Option ℕ). or_stored o (stored_at img p before loaded)) stands
              ∙ ap (λ (n : ℕ). Some (slot_place img n p.depth)) (sym sp)
              ∙ ap (λ (d : ℕ). Some (slot_place img (sp_of img after) d)) (sym depth);
          word = λ deep.
              let was : in_link img p.depth ≡ false = ap (in_link img) (sym depth) ∙ deep in
              let bytes = at_slot (λ slot. BytesStay before.mem after.mem slot 8) frame.slot (slot_place img (sp_of img before) p.depth)
              (inner.holds.slot was) stay in
              ap (λ (d : ℕ). word_at after.mem (slot_place img (sp_of img after) d)) depth
              ∙ ap (λ (n : ℕ). word_at after.mem (slot_place img n p.depth)) sp
              ∙ word_stays before.mem after.mem (slot_place img (sp_of img before) p.depth) bytes ∙ inner.holds.word was;
        };
        began = record {
          start = began.start;
          fine = began.fine;
          came =
              subst (λ (n : ℕ). Leads q.parts n began.start after) (sym next.index)
              (subst (λ (parts : ℕ → PlacedEffect). Leads parts (suc p.index) began.start after) (sym next.parts)
              (before, began.came, subst (λ (e : PlacedEffect). Applies e.effect e.past before after) (sym part) applies));
          sp = began.sp ∙ sym sp;
          link = λ shallow. began.link (ap (in_link img) (sym depth) ∙ shallow);
          word = λ deep.
              ap (λ (d : ℕ). word_at began.start.mem (slot_place img (sp_of img began.start) d)) depth
              ∙ began.word (ap (in_link img) (sym depth) ∙ deep);
        };
      }
    where
      next_slot : (one other : ℕ) → other ≡ one → q.role ≡ p.role → q.parts ≡ p.parts → q.index ≡ suc p.index
          → slot_by img p.role p.parts (suc p.index) one ≡ slot_in img q other
      next_slot one other sp role parts index =
          ap (slot_by img p.role p.parts (suc p.index)) (sym sp)
          ∙ ap (λ (n : ℕ). slot_by img p.role p.parts n other) (sym index)
          ∙ ap (λ (parts : ℕ → PlacedEffect). slot_by img p.role parts q.index other) (sym parts)
          ∙ ap (λ (role : Sequence). slot_by img role q.parts q.index other) (sym role)

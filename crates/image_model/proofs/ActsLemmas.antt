-- What a target's sequence does, it does at its place in a function.
use Rattle.std.proofs.Common.{◌≡◌, ℕ, zero, suc, List, [], ◌∷◌, ◌+◌, ◌-◌, ◌<◌, true, false, Option, Some, None, length, take, refl, sym, ap, ◌∙◌, subst, arith}
use Rattle.std.specs.List.{slice_get}
use Rattle.std.proofs.lemmas.Option.{slice_get_within}
use Rattle.machine_effect.specs.declared.effect.Effect.{Effect}
use Rattle.machine_effect.specs.declared.flow.Shape.{Shape}
use Rattle.machine_effect.specs.Flow.{flow_of}
use Rattle.asm_target.specs.declared.sequence.Sequence.{Sequence}
use Rattle.asm_target.specs.declared.sequence.Sequence.TheVariants.{Plain, Saving, Restoring, Growth}
use Rattle.asm_target.specs.InstructionSet.{InstructionSet}
use Rattle.asm_target.specs.Runs.{Leads, PlacedEffect, effects_from}
use Rattle.asm_target.specs.SequenceLaws.{DoesAs, IsGrowing, IsRestoring, IsSaving}
use Rattle.asm_target.specs.Sequences.{count_of, is_plain}
use Rattle.asm_target.proofs.RunLemmas.{leads_same}
use Rattle.image_model.specs.Actions.{ActsAs, GrowsStack, RestoresLink, SavesLink}

got_taken : {A : Type 0} (n : ℕ) (xs : List A) (k : ℕ) (x : A) → k < n → slice_get xs k ≡ Some x → slice_get (take n xs) k ≡ Some x
got_taken zero xs k x less is = absurd (omega arith)
got_taken (suc n) [] k x less is = absurd (cc)
got_taken (suc n) (y ∷ xs) zero x less is = is
got_taken (suc n) (y ∷ xs) (suc k) x less is = got_taken n xs k x (omega arith) is

module _ {Instr : Type 0} (set : InstructionSet Instr) (shape : Shape) where
  -- an effect of a list is that of its instruction somewhere
  pub record IsOf (code : List Instr) (k : ℕ) (effect : Effect) : Type 0 where
    pub instr : Instr
    pub place : ℕ
    pub there : slice_get code k ≡ Some instr
    pub effect_is : effect ≡ set.effect instr place

  of_here : (code : List Instr) (at k : ℕ) → k < length code → IsOf code k (effects_from set code at k).effect
  of_here [] at k less = absurd (omega arith)
  of_here (i ∷ code) at zero less = record { instr = i; place = at; there = refl; effect_is = refl }
  of_here (i ∷ code) at (suc k) less =
      let of = of_here code (at + length (set.spelling i)) k (omega arith) in
      record { instr = of.instr; place = of.place; there = of.there; effect_is = of.effect_is }

  module _ (code : List Instr) (at : ℕ) (parts : ℕ → PlacedEffect)
      (same : (k : ℕ) → k < length code → parts k ≡ effects_from set code at k) where
    of : (k : ℕ) → k < length code → IsOf code k (parts k).effect
    of k less = subst (λ (part : PlacedEffect). IsOf code k part.effect) (sym (same k less)) (of_here code at k less)

    one_instr : (k : ℕ) (less : k < length code) (i : Instr) → slice_get code k ≡ Some i → (of k less).instr ≡ i
    one_instr k less i is = let there = (of k less).there in cc (there, is)

    saves : (link count total : ℕ) → length code ≡ count → IsSaving set shape link total code → SavesLink shape parts link count total
    saves link count total size is =
        let inside : is.position < length code = slice_get_within code is.position is.saver is.inside in
        record {
          falls = λ k less.
              let o = of k (omega arith) in
              ap (λ (e : Effect). e.next) o.effect_is ∙ is.falls k o.place o.instr o.there;
          keeps = λ k less.
              let o = of k (omega arith) in
              ap (λ (e : Effect). (flow_of e shape).sp) o.effect_is ∙ is.keeps k o.place o.instr (omega arith) o.there;
          unwritten = λ k less.
              let o = of k (omega arith) in
              ap (λ (e : Effect). (flow_of e shape).writes_link) o.effect_is ∙ is.unwritten k o.place o.instr (omega arith) o.there;
          position = is.position;
          inside = omega (arith, inside, size);
          stores =
              (let o = of is.position inside in
              ap (λ (e : Effect). (flow_of e shape).stores_link) o.effect_is
              ∙ subst (λ (i : Instr). (flow_of (set.effect i o.place) shape).stores_link ≡ true)
              (sym (one_instr is.position inside is.saver is.inside)) (is.stores o.place));
          once = λ k less other.
              let o = of k (omega arith) in
              ap (λ (e : Effect). e.store) o.effect_is ∙ is.once k o.place o.instr o.there other;
          place = λ loaded before between access value state run store.
              is.place at loaded before between access value state
              (leads_same parts (effects_from set code at) is.position before between (λ k less. same k (omega (arith, inside))) run)
              (ap (λ (part : PlacedEffect). part.effect.store) (sym (same is.position inside)) ∙ store);
          lowers = λ before after state run.
              is.lowers at before after state
              (leads_same parts (effects_from set code at) (length code) before after same
              (subst (λ (n : ℕ). Leads parts n before after) (sym size) run));
          saves = λ before after state run.
              is.saves at before after state
              (leads_same parts (effects_from set code at) (length code) before after same
              (subst (λ (n : ℕ). Leads parts n before after) (sym size) run));
        }

    restores : (link count total : ℕ) → length code ≡ count → IsRestoring set shape link total code
        → RestoresLink shape parts link count total
    restores link count total size is =
        let inside : is.position < length code = slice_get_within code is.position is.loader is.inside in
        record {
          falls = λ k less.
              let o = of k (omega arith) in
              ap (λ (e : Effect). e.next) o.effect_is ∙ is.falls k o.place o.instr o.there;
          keeps = λ k less.
              let o = of k (omega arith) in
              ap (λ (e : Effect). (flow_of e shape).sp) o.effect_is ∙ is.keeps k o.place o.instr (omega arith) o.there;
          stores_nothing = λ k less.
              let o = of k (omega arith) in
              ap (λ (e : Effect). e.store) o.effect_is ∙ is.stores_nothing k o.place o.instr o.there;
          position = is.position;
          inside = omega (arith, inside, size);
          writes =
              (let o = of is.position inside in
              ap (λ (e : Effect). (flow_of e shape).writes_link) o.effect_is
              ∙ subst (λ (i : Instr). (flow_of (set.effect i o.place) shape).writes_link ≡ true)
              (sym (one_instr is.position inside is.loader is.inside)) (is.writes o.place));
          once = λ k less other.
              let o = of k (omega arith) in
              ap (λ (e : Effect). (flow_of e shape).writes_link) o.effect_is ∙ is.once k o.place o.instr o.there other;
          raises = λ before after state run.
              is.raises at before after state
              (leads_same parts (effects_from set code at) (length code) before after same
              (subst (λ (n : ℕ). Leads parts n before after) (sym size) run));
          restores = λ word before after state run.
              is.restores at word before after state
              (leads_same parts (effects_from set code at) (length code) before after same
              (subst (λ (n : ℕ). Leads parts n before after) (sym size) run));
        }

    grows : (link growth count : ℕ) → length code ≡ count → IsGrowing set shape link growth code
        → GrowsStack shape parts link growth count
    grows link growth count size is = record {
      most = omega (arith, is.most);
      keeps = λ k less.
          let o = of k (omega arith) in
          ap (λ (e : Effect). (flow_of e shape).sp) o.effect_is ∙ is.keeps k o.place o.instr (omega arith) o.there;
      stores_nothing = λ k less.
          let o = of k (omega arith) in
          ap (λ (e : Effect). e.store) o.effect_is ∙ is.stores_nothing k o.place o.instr o.there;
      falls = λ k less.
          let o = of k (omega arith) in
          ap (λ (e : Effect). e.next) o.effect_is
          ∙ is.falls k o.place o.instr (got_taken (length code - 2) code k o.instr (omega arith) o.there);
      unwritten = λ k less.
          let o = of k (omega arith) in
          ap (λ (e : Effect). (flow_of e shape).writes_link) o.effect_is ∙ is.unwritten k o.place o.instr (omega arith) o.there;
      hands = λ before between state run.
          let shorter : count - 2 ≡ length code - 2 = omega arith in
          is.hands at before between state
          (leads_same parts (effects_from set code at) (length code - 2) before between (λ k less. same k (omega arith))
          (subst (λ (n : ℕ). Leads parts n before between) shorter run));
    }

    pub acts_as : (link growth : Option ℕ) (found : Sequence) → (is_plain found ≡ false → length code ≡ count_of found)
        → DoesAs set shape link growth found code → ActsAs shape parts link growth found
    acts_as link growth Plain size does = tt
    acts_as (Some link) growth (Saving count total) size does = (does.0, saves link count total (size refl) does.1)
    acts_as (Some link) growth (Restoring count total) size does = (does.0, restores link count total (size refl) does.1)
    acts_as (Some link) (Some growth) (Growth count) size does = grows link growth count (size refl) does
    acts_as (Some link) None (Growth count) size does = does
    acts_as None growth (Saving count total) size does = does
    acts_as None growth (Restoring count total) size does = does
    acts_as None growth (Growth count) size does = does

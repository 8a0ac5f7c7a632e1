-- Functions of a target's instructions make a text that is machine code.
use Rattle.std.proofs.Common.{◌≡◌, ℕ, zero, suc, List, [], ◌∷◌, ◌+◌, ◌-◌, ◌<◌, ◌^◌, true, false, Option, Some, is_some, length, map, take, drop, length-drop, refl, sym, ap, ◌∙◌, subst, arith, inl, inr}
use Rattle.std.specs.List.{slice_get}
use Rattle.std.specs.Prelude.{All}
use Rattle.std.proofs.lemmas.List.{length-map, length-take-le}
use Rattle.std.proofs.lemmas.List.Elements.{All-map, All-drop, All-head, All-tail, All-nil, All-cons}
use Rattle.machine_effect.specs.declared.flow.Shape.{Shape}
use Rattle.machine_effect.specs.declared.next.Next.{Next}
use Rattle.machine_effect.specs.declared.next.Next.TheVariants as next
use Rattle.machine_effect.specs.Applies.{link_of}
use Rattle.machine_effect.specs.Bounds.{LinksBy}
use Rattle.machine_effect.specs.Flow.{flow_of}
use Rattle.asm_target.specs.declared.body.Placed.{Placed}
use Rattle.asm_target.specs.declared.sequence.Sequence.{Sequence}
use Rattle.asm_target.specs.declared.sequence.Sequence.TheVariants.{Plain, Saving, Restoring, Growth}
use Rattle.asm_target.specs.Architecture.{Architecture, IsArchitecture}
use Rattle.asm_target.specs.DepthChange.{is_call}
use Rattle.asm_target.specs.InstructionSet.{InstructionSet}
use Rattle.asm_target.specs.Laws.{HasLinks, HasOnlyGoing}
use Rattle.asm_target.specs.Runs.{PlacedEffect, effects_from}
use Rattle.asm_target.specs.SequenceLaws.{DoSequences, StandsApart}
use Rattle.asm_target.specs.Sequences.{count_of, is_plain}
use Rattle.asm_target.proofs.FlowLemmas.{stays}
use Rattle.asm_target.proofs.PlaceLemmas.{fit_at, item_at, slice_get-drop}
use Rattle.flow_rules.specs.CodeLaws.{lawful_code}
use Rattle.flow_rules.specs.Placing.{ArePlaced, Surroundings, end_of, place_of}
use Rattle.image_model.specs.Actions.{ActsAs}
use Rattle.image_model.specs.Joined.{IsInRow, IsMachine, IsMachineCode, IsText, IsTold}
use Rattle.image_model.specs.Listed.{AreFunctions, AreSpelled, Listed, code_of, placed_there, text_of}
use Rattle.image_model.proofs.ActsLemmas.{acts_as}

linked_call : (shape : Shape) (goes : Next) → LinksBy shape goes → is_call goes ≡ true → is_some (link_of goes) ≡ is_some shape.link
linked_call shape (next.Call goal link) links call = links.some
linked_call shape (next.CallTo goal link) links call = links.some
linked_call shape next.Fall links call = absurd (cc)
linked_call shape (next.Branch held goal) links call = absurd (cc)
linked_call shape (next.Jump goal) links call = absurd (cc)
linked_call shape (next.JumpTo goal) links call = absurd (cc)
linked_call shape next.Return links call = absurd (cc)
linked_call shape next.System links call = absurd (cc)
linked_call shape next.Stop links call = absurd (cc)

placed_tail : {Instr : Type 0} (one : Placed Instr) (code : List (Placed Instr)) → ArePlaced (one ∷ code) → ArePlaced code
placed_tail one code is = record {
  some = λ k other there. is.some (suc k) other there;
  room = λ k other there. is.room (suc k) other there;
  follows = λ k other more there behind. is.follows (suc k) other more there behind;
}

placed_drop : {Instr : Type 0} (n : ℕ) (code : List (Placed Instr)) → ArePlaced code → ArePlaced (drop n code)
placed_drop n code is = record {
  some = λ k other there. is.some (n + k) other (sym (slice_get-drop n code k) ∙ there);
  room = λ k other there. is.room (n + k) other (sym (slice_get-drop n code k) ∙ there);
  follows = λ k other more there behind.
      let next : n + suc k ≡ suc (n + k) = omega arith in
      is.follows (n + k) other more (sym (slice_get-drop n code k) ∙ there)
      (ap (slice_get code) (sym next) ∙ sym (slice_get-drop n code (suc k)) ∙ behind);
}

-- the registers of calls
abbrev AreRegisters : Shape → Type 0
AreRegisters shape = (shape.sp < 33) × ((link : ℕ) → shape.link ≡ Some link → (link < 33) × ¬ (link ≡ shape.sp))

registers_of : (known : Architecture) → IsArchitecture known → AreRegisters known.shape
registers_of known (inl is) = subst (λ (a : Architecture). AreRegisters a.shape) (sym is) (omega arith, λ link none. absurd (cc))
registers_of known (inr (inl is)) =
    subst (λ (a : Architecture). AreRegisters a.shape) (sym is)
    (omega arith, λ link some. let same : 30 ≡ link = cc in (omega arith, λ sp. omega arith))
registers_of known (inr (inr is)) =
    subst (λ (a : Architecture). AreRegisters a.shape) (sym is)
    (omega arith, λ link some. let same : 1 ≡ link = cc in (omega arith, λ sp. omega arith))

module _ {Instr : Type 0} (set : InstructionSet Instr) (fits : Instr → Type 0) where
  abbrev IsSpelled : Placed Instr → Type 0
  IsSpelled one = fits one.instr × (one.len ≡ length (set.spelling one.instr))

  -- the effects of instructions at their places
  same_effects : (code : List (Placed Instr)) (n at k : ℕ) → ArePlaced code → AreSpelled set fits code
      → ((one : Placed Instr) → slice_get code 0 ≡ Some one → one.at ≡ at) → k < n → k < length code
      → placed_there set (slice_get code k) ≡ effects_from set (take n (map (λ placed. placed.instr) code)) at k
  same_effects [] n at k placed spelled begins less inside = absurd (omega arith)
  same_effects (one ∷ code) zero at k placed spelled begins less inside = absurd (omega arith)
  same_effects (one ∷ code) (suc n) at zero placed spelled begins less inside =
      let place : one.at ≡ at = begins one refl in
      let size : one.len ≡ length (set.spelling one.instr) = (All-head IsSpelled one code spelled).1 in
      ap (λ (p : ℕ). placed_effect p (p + one.len)) place ∙ ap (λ (l : ℕ). placed_effect at (at + l)) size
    where
      placed_effect : ℕ → ℕ → PlacedEffect
      placed_effect p past = record { effect = set.effect one.instr p; past = past }
  same_effects (one ∷ code) (suc n) at (suc k) placed spelled begins less inside =
      let place : one.at ≡ at = begins one refl in
      let size : one.len ≡ length (set.spelling one.instr) = (All-head IsSpelled one code spelled).1 in
      same_effects code n (at + length (set.spelling one.instr)) k (placed_tail one code placed) (All-tail IsSpelled one code spelled)
      (λ two there. let follows = placed.follows 0 one two refl there in omega arith) (omega arith) (omega arith)

  all_fit : (code : List (Placed Instr)) → AreSpelled set fits code → All (λ one. fits one.instr) code
  all_fit [] spelled = All-nil (λ (one : Placed Instr). fits one.instr)
  all_fit (one ∷ code) spelled =
      All-cons (λ (one : Placed Instr). fits one.instr) one code (All-head IsSpelled one code spelled).0 (all_fit code (All-tail IsSpelled one code spelled))

  module _ (shape : Shape) (growth : Option ℕ) (begins : List Instr → Sequence) (around : Surroundings) (listed : Listed Instr)
      (some : 0 < length listed.code) (placed : ArePlaced listed.code) (spelled : AreSpelled set fits listed.code) where
    here : (k : ℕ) → k < length listed.code → (one : Placed Instr) × (slice_get listed.code k ≡ Some one)
    here k inside = item_at listed.code k inside

    ends_is : (k : ℕ) (one : Placed Instr) → slice_get listed.code k ≡ Some one
        → (placed_there set (slice_get listed.code k)).past ≡ end_of (slice_get listed.code k)
    ends_is k one there = rw there refl

    pub row : IsInRow (code_of set shape begins around listed)
    row = record {
      some = some;
      long = λ k inside.
          let one = here k inside in
          let long = placed.some k one.0 one.1 in
          rw one.1 (omega arith);
      room = λ k inside.
          let one = here k inside in
          let room = placed.room k one.0 one.1 in
          rw one.1 room;
      follows = λ k inside.
          let one = here k (omega arith) in
          let two = here (suc k) inside in
          let follows = placed.follows k one.0 two.0 one.1 two.1 in
          rw (one.1, two.1) follows;
      first = refl;
      past = λ k last.
          let end : length listed.code - 1 ≡ k = omega arith in
          let one = here k (omega arith) in
          ap (λ (p : ℕ). end_of (slice_get listed.code p)) end ∙ sym (ends_is k one.0 one.1);
    }

    module _ (apart : (code : List Instr) → StandsApart begins code) (acts : DoSequences set shape fits begins growth)
        (only : HasOnlyGoing set fits) (links : HasLinks set fits shape) where
      abbrev instrs : ℕ → List Instr
      instrs k = map (λ one. one.instr) (drop k listed.code)

      instrs_length : (k : ℕ) → length (instrs k) ≡ length listed.code - k
      instrs_length k = length-map (drop k listed.code) (λ one. one.instr) ∙ length-drop k listed.code

      size_of : (k : ℕ) → is_plain (begins (instrs k)) ≡ false
          → length (take (count_of (begins (instrs k))) (instrs k)) ≡ count_of (begins (instrs k))
      size_of k some = length-take-le (count_of (begins (instrs k))) (instrs k) ((apart (instrs k)).there some)

      parts_are : (k j : ℕ) → j < length (take (count_of (begins (instrs k))) (instrs k))
          → is_plain (begins (instrs k)) ≡ false
          → placed_there set (slice_get listed.code (k + j))
          ≡ effects_from set (take (count_of (begins (instrs k))) (instrs k)) (place_of (slice_get listed.code k)) j
      parts_are k j less some =
          let size = size_of k some in
          let there = (apart (instrs k)).there some in
          let len = instrs_length k in
          ap (placed_there set) (sym (slice_get-drop k listed.code j))
          ∙ same_effects (drop k listed.code) (count_of (begins (instrs k))) (place_of (slice_get listed.code k)) j
          (placed_drop k listed.code placed) (All-drop IsSpelled k listed.code spelled)
          (λ one first.
          let same : k + 0 ≡ k = omega arith in
          let at : slice_get listed.code k ≡ Some one = ap (slice_get listed.code) (sym same) ∙ sym (slice_get-drop k listed.code 0) ∙ first in
          sym (ap place_of at))
          (omega arith) (omega (arith, length-drop k listed.code))

      acts_there : (k : ℕ) → k < length listed.code
          → ActsAs shape (λ j. placed_there set (slice_get listed.code (k + j))) shape.link growth (begins (instrs k))
      acts_there k inside =
          elim (is_plain (begins (instrs k))) as (λ b. is_plain (begins (instrs k)) ≡ b
          → ActsAs shape (λ j. placed_there set (slice_get listed.code (k + j))) shape.link growth (begins (instrs k))) [
            | true ↦ (λ plain. plain_acts (begins (instrs k)) plain)
            | false ↦ (λ some.
                acts_as set shape (take (count_of (begins (instrs k))) (instrs k)) (place_of (slice_get listed.code k))
                (λ j. placed_there set (slice_get listed.code (k + j))) (λ j less. parts_are k j less some) shape.link growth
                (begins (instrs k)) (size_of k)
                (acts (instrs k) (All-map fits (λ one. one.instr) (drop k listed.code)
                (all_fit (drop k listed.code) (All-drop IsSpelled k listed.code spelled)))))
          ] refl
        where
          plain_acts : (found : Sequence) → is_plain found ≡ true
              → ActsAs shape (λ j. placed_there set (slice_get listed.code (k + j))) shape.link growth found
          plain_acts Plain plain = tt
          plain_acts (Saving count total) plain = absurd (cc)
          plain_acts (Restoring count total) plain = absurd (cc)
          plain_acts (Growth count) plain = absurd (cc)

      low : (k : ℕ) (one : Placed Instr) → slice_get listed.code k ≡ Some one → one.at < 2 ^ 64
      low k one there =
          let long = placed.some k one there in
          let room = placed.room k one there in
          omega arith

      fit_here : (k : ℕ) (one : Placed Instr) → slice_get listed.code k ≡ Some one → fits one.instr
      fit_here k one there = (fit_at IsSpelled listed.code k one spelled there).0

      pub machine_code : (count : ℕ) (functions : ℕ → Listed Instr)
          → IsMachineCode (text_of set shape growth begins around count functions) (code_of set shape begins around listed)
      machine_code count functions = record {
        lawful = lawful_code set shape begins apart listed.code listed.depths around placed;
        acts = acts_there;
        still = λ k inside ends.
            let one = here k inside in
            let i = one.0.instr in
            let fit = fit_here k one.0 one.1 in
            let under = low k one.0 one.1 in
            let does : (placed_there set (slice_get listed.code k)).effect ≡ set.effect i one.0.at =
            ap (λ found. (placed_there set found).effect) one.1 in
            ap (λ e. (flow_of e shape).sp) does
            ∙ stays (set.effect i one.0.at) shape (only i one.0.at fit under) (links i one.0.at fit under)
            (λ falls. ends (ap (λ e. e.next) does ∙ falls));
        links = λ k inside call.
            let one = here k inside in
            let i = one.0.instr in
            let fit = fit_here k one.0 one.1 in
            let under = low k one.0 one.1 in
            let does : (placed_there set (slice_get listed.code k)).effect ≡ set.effect i one.0.at =
            ap (λ found. (placed_there set found).effect) one.1 in
            ap (λ e. is_some (link_of e.next)) does
            ∙ linked_call shape (set.effect i one.0.at).next (links i one.0.at fit under) (sym (ap (λ e. is_call e.next) does) ∙ call);
      }

      pub told : (count : ℕ) (functions : ℕ → Listed Instr)
          → IsTold (text_of set shape growth begins around count functions) (code_of set shape begins around listed)
      told count functions = record {
        link = refl;
        range = refl;
        flow = λ k inside. let one = here k inside in rw one.1 refl;
        is_entry = λ at. refl;
        is_growth_routine = λ at. refl;
      }

  module _ (machine quantum : ℕ) (shape : Shape) (growth : Option ℕ) (begins : List Instr → Sequence)
      (known : IsArchitecture (record { machine = machine; quantum = quantum; shape = shape; growth = growth }))
      (apart : (code : List Instr) → StandsApart begins code) (acts : DoSequences set shape fits begins growth)
      (only : HasOnlyGoing set fits) (links : HasLinks set fits shape) (around : Surroundings) (count : ℕ) (functions : ℕ → Listed Instr)
      (are : AreFunctions set fits around count functions) where
    pub text_is : IsText (text_of set shape growth begins around count functions)
    text_is = record {
      row = λ i less. row shape growth begins around (functions i) (are.some i less) (are.placed i less) (are.spelled i less);
      told = λ i less.
          told shape growth begins around (functions i) (are.some i less) (are.placed i less) (are.spelled i less)
          apart acts only links count functions;
      apart = are.apart;
      low = are.low;
      high = are.high;
      entry = are.entry;
      entries = are.entries;
      growth = are.growth;
    }

    pub machine_is : IsMachine (text_of set shape growth begins around count functions)
    machine_is =
        let registers = registers_of (record { machine = machine; quantum = quantum; shape = shape; growth = growth }) known in
        record {
          registers = record { sp = registers.0; link = registers.1 };
          code = λ i less.
              machine_code shape growth begins around (functions i) (are.some i less) (are.placed i less) (are.spelled i less)
              apart acts only links count functions;
        }

-- A sequence that makes or leaves a frame, by the flow rules.
use Rattle.std.proofs.Common.{◌≡◌, ℕ, zero, suc, List, ◌++◌, ◌+◌, ◌<◌, ◌≤◌, ◌==◌, ◌⊎◌, Bool, true, false, Some, pos, length, drop, refl, sym, ap, ◌∙◌, subst, arith, inl, inr, is_some}
use Rattle.std.proofs.lemmas.Bool.{cases_order}
use Rattle.std.proofs.lemmas.Bool.Decides.{nat_tests}
use Rattle.std.proofs.lemmas.Int.{ints}
use Rattle.std.specs.List.{slice_get}
use Rattle.std.specs.Prelude.{◌+ℤ◌, nat_le, ◌-◌}
use Rattle.machine_effect.specs.declared.flow.Shape.{Shape}
use Rattle.machine_effect.specs.declared.next.Next.TheVariants as next
use Rattle.machine_effect.specs.Flow.{flow_of}
use Rattle.asm_target.specs.declared.sequence.Sequence.{Sequence}
use Rattle.asm_target.specs.declared.sequence.Sequence.TheVariants.{Plain, Saving, Restoring, Growth}
use Rattle.asm_target.specs.DepthChange.{ends_sequence, is_at_depth, is_hit, longest}
use Rattle.asm_target.specs.FlowFunction.{FlowFunction, depth_view, is_in_order, is_target, outgoing, role_at, sequence_at, span_at, start_at}
use Rattle.asm_target.specs.FlowRules.{breaks, breaks_f2, breaks_f8, greatest_depth}
use Rattle.asm_target.specs.InstructionSet.{InstructionSet}
use Rattle.asm_target.specs.SequenceLaws.{StandsApart}
use Rattle.asm_target.specs.Sequences.{count_of, span_of, depth_added_by, is_of_frame, is_plain}
use Rattle.asm_target.specs.Standing.{KeepsRules, StandsAt}
use Rattle.asm_target.proofs.CleanLemmas.{and_off, falling, none_below, unbroken}
use Rattle.asm_target.proofs.FrameLemmas.{flow_next, same_pos}
use Rattle.asm_target.proofs.PlaceLemmas.{apart_positions, instr_here, item_at}
use Rattle.asm_target.proofs.RoleLemmas.{AreApart, added_before, added_last, counts, frame_not_plain, linked_out, stands_in}

frame_span : (found : Sequence) → is_of_frame found ≡ true → span_of found ≡ count_of found
frame_span (Saving count total) is = refl
frame_span (Restoring count total) is = refl
frame_span Plain is = refl
frame_span (Growth count) is = absurd (cc)

frame_order : (f : FlowFunction) (k : ℕ) (found : Sequence) → is_of_frame found ≡ true → is_at_depth found (f.depth k) ≡ true
    → is_in_order f k found ≡ true
frame_order f k (Saving count total) is order = order
frame_order f k (Restoring count total) is order = order
frame_order f k Plain is order = order
frame_order f k (Growth count) is order = absurd (cc)

-- a saving sequence stands at depth 0 and leaves the link register; a restoring one stands in a frame
abbrev pub SuitsDepth : Sequence → ℕ → Bool → Type 0
SuitsDepth (Saving count total) depth writes_link = (depth ≡ 0) × (writes_link ≡ false)
SuitsDepth (Restoring count total) depth writes_link = 0 < depth
SuitsDepth found depth writes_link = ⊥

linked_f2 : (f : FlowFunction) (p : ℕ) → is_some f.link ≡ true → is_of_frame (role_at f p) ≡ true → breaks_f2 f p ≡ false
linked_f2 f p link framed = rw (link, framed) (and_off _)

linked_f8 : (f : FlowFunction) (p : ℕ) (found : Sequence) → role_at f p ≡ found
    → SuitsDepth found (f.depth p) (f.flow p).writes_link → breaks_f8 f p ≡ false
linked_f8 f p (Saving count total) role suits =
    rw (suits.0, suits.1, role)
    (rw (and_off (f.flow p).stores_link, and_off (start_at f p == p)) (and_off (is_some f.link)))
linked_f8 f p (Restoring count total) role suits =
    let deep : (f.depth p == 0) ≡ false = (let more : 0 < f.depth p = suits in grind (arith, nat_tests)) in
    rw (deep, role) (and_off (is_some f.link))
linked_f8 f p Plain role suits = absurd suits
linked_f8 f p (Growth count) role suits = absurd suits

module _ {Instr : Type 0} (set : InstructionSet Instr) (fits : Instr → Type 0) (begins : List Instr → Sequence) (shape : Shape) where
  -- code that is a sequence of a frame as a whole, at one depth
  pub record IsWhole (found : Sequence) (code : List Instr) (before after : ℕ) : Type 0 where
    pub begins_so : (rest : List Instr) → begins (code ++ rest) ≡ found
    pub framed : is_of_frame found ≡ true
    pub count : count_of found ≡ length code
    pub order : is_at_depth found before ≡ true
    pub adds : pos before +ℤ depth_added_by found ≡ pos after
    pub falls : (k pc : ℕ) (i : Instr) → slice_get code k ≡ Some i → (set.effect i pc).next ≡ next.Fall
    pub suits : (k pc : ℕ) (i : Instr) → slice_get code k ≡ Some i
        → SuitsDepth found before (flow_of (set.effect i pc) shape).writes_link
    pub most_before : before ≤ greatest_depth
    pub most : after ≤ greatest_depth

  module _ (apart : (code : List Instr) → StandsApart begins code) (link : is_some shape.link ≡ true)
      (q : Sequence) (code : List Instr) (before after : ℕ) (is : IsWhole q code before after)
      (f : FlowFunction) (at : ℕ) (stands : StandsAt set fits begins shape f at code) (start : f.depth at ≡ before) where
    linked : is_some f.link ≡ true
    linked = ap is_some stands.whole.link ∙ link

    lies : AreApart f
    lies = apart_positions set fits begins shape apart f stands.all stands.whole

    found : f.found at ≡ q
    found = stands.whole.found at ∙ ap begins stands.here ∙ is.begins_so stands.rest

    begun : is_plain (f.found at) ≡ false
    begun = ap is_plain found ∙ frame_not_plain q is.framed

    counted : count_of (f.found at) ≡ length code
    counted = ap count_of found ∙ is.count

    ordered : is_at_depth (f.found at) (f.depth at) ≡ true
    ordered = ap (λ (s : Sequence). is_at_depth s (f.depth at)) found ∙ ap (is_at_depth q) start ∙ is.order

    counts_here : sequence_at f at ≡ q
    counts_here =
        let framed : is_of_frame (f.found at) ≡ true = ap is_of_frame found ∙ is.framed in
        counts f at (length code) counted (frame_order f at (f.found at) framed ordered) stands.unhit ∙ found

    spans : span_at f at ≡ length code
    spans = ap span_of counts_here ∙ frame_span q is.framed ∙ is.count

    role : (k : ℕ) → k < length code → role_at f (at + k) ≡ q
    role k less =
        let inside : k < span_at f at = omega (arith, spans) in
        ap (sequence_at f) (stands_in f lies at k begun inside) ∙ counts_here

    -- the depth behind the instruction
    out_before : (k : ℕ) → suc k < length code → outgoing f (at + k) ≡ pos (f.depth (at + k)) +ℤ pos 0
    out_before k less =
        linked_out f linked (at + k) (pos 0) (added_before f lies at k longest begun (omega (arith, counted)))

    ends_last : (k : ℕ) → suc k ≡ length code → ends_sequence (depth_view f) (at + k) k ≡ true
    unfolding ends_sequence
    ends_last k last =
        let back : at + k - k ≡ at = omega arith in
        let within : nat_le k (at + k) ≡ true = grind (arith, nat_tests) in
        let same : (count_of (f.found at) == suc k) ≡ true = (let e = counted in grind (arith, nat_tests)) in
        let spared : is_hit (is_target f) at k ≡ false =
        none_below (λ j. is_target f (at + suc j)) k (λ j less. stands.unhit j (omega arith)) in
        rw (back, within, same, ordered, spared) refl

    out_last : (k : ℕ) → suc k ≡ length code → outgoing f (at + k) ≡ pos (f.depth (at + k)) +ℤ depth_added_by q
    out_last k last =
        let short = (apart (drop at stands.all)).short in
        let few : count_of (f.found at) ≤ 5 = subst (λ (s : Sequence). count_of s ≤ 5) (sym (stands.whole.found at)) short in
        linked_out f linked (at + k) (depth_added_by q)
        (added_last f lies at k longest begun (omega (arith, counted)) (ends_last k last) (omega (arith, counted))
        ∙ ap depth_added_by found)

    -- so the depth stays up to the last instruction
    depth_in : (k : ℕ) → k < length code → f.depth (at + k) ≡ before
    depth_in zero less = (let here : at + 0 ≡ at = omega arith in ap f.depth here ∙ start)
    depth_in (suc k) less =
        let same : pos (f.depth (at + suc k)) ≡ pos (f.depth (at + k)) +ℤ pos 0 =
        stands.linear k (omega arith) ∙ out_before k less in
        let earlier : f.depth (at + k) ≡ before = depth_in k (omega arith) in
        omega (arith, ints)

    depth_behind : (k : ℕ) → k < length code → (f.depth (at + suc k) ≡ before) ⊎ (f.depth (at + suc k) ≡ after)
    depth_behind k less =
        elim (cases_order (suc k) (length code)) as (λ _. (f.depth (at + suc k) ≡ before) ⊎ (f.depth (at + suc k) ≡ after)) [
          | inl last ↦ inr (same_pos (f.depth (at + suc k)) after
              (stands.linear k less ∙ out_last k last ∙ ap (λ (d : ℕ). pos d +ℤ depth_added_by q) (depth_in k less) ∙ is.adds))
          | inr (inl inside) ↦ inl (depth_in (suc k) inside)
          | inr (inr past) ↦ absurd (omega arith)
        ]

    ends : (n : ℕ) → n ≡ length code → 0 < n → f.depth (at + n) ≡ after
    ends zero whole some = absurd (omega arith)
    ends (suc k) whole some =
        same_pos (f.depth (at + suc k)) after
        (stands.linear k (omega arith) ∙ out_last k whole
        ∙ ap (λ (d : ℕ). pos d +ℤ depth_added_by q) (depth_in k (omega arith)) ∙ is.adds)

    clean : (at ≡ 0 → before ≡ 0) → (k rule : ℕ) → k < length code → breaks f (at + k) rule ≡ false
    clean entry k rule less =
        let there = item_at code k less in
        let flow = stands.whole.flow (at + k) there.0
        (instr_here set fits begins shape stands.all code stands.rest at k there.0 stands.here there.1) in
        let place : ℕ = f.at (at + k) in
        let next : suc (at + k) ≡ at + suc k = omega arith in
        let framed : is_of_frame (role_at f (at + k)) ≡ true = ap is_of_frame (role k less) ∙ is.framed in
        let suits : SuitsDepth q (f.depth (at + k)) (f.flow (at + k)).writes_link =
        subst (λ (d : ℕ). SuitsDepth q d (f.flow (at + k)).writes_link) (sym (depth_in k less))
        (subst (λ (w : Bool). SuitsDepth q before w) (sym (ap (λ flow. flow.writes_link) flow)) (is.suits k place there.0 there.1)) in
        let most : f.depth (at + suc k) ≤ greatest_depth =
        elim (depth_behind k less) as (λ _. f.depth (at + suc k) ≤ greatest_depth) [
          | inl same ↦ omega (arith, is.most_before)
          | inr same ↦ omega (arith, is.most)
        ] in
        unbroken f (at + k) (falling f (at + k) (f.depth (at + suc k)) (record {
          falls = ap (λ flow. flow.next) flow ∙ flow_next (set.effect there.0 place) shape ∙ is.falls k place there.0 there.1;
          out = sym (stands.linear k less);
          behind = ap f.depth next;
          inside = omega (arith, stands.goes_on);
          most = most;
          entry = λ first. (let zero_at : at ≡ 0 = omega arith in depth_in k less ∙ entry zero_at);
          f2 = linked_f2 f (at + k) linked framed;
          f8 = linked_f8 f (at + k) q (role k less) suits;
        })) rule

  -- with a link register such code breaks no rule
  pub whole : ((code : List Instr) → StandsApart begins code) → is_some shape.link ≡ true
      → (found : Sequence) (code : List Instr) (before after : ℕ) → 0 < length code → IsWhole found code before after
      → KeepsRules set fits begins shape code before after
  whole apart link q code before after some is f at stands start entry = record {
    clean = λ k rule less few. clean apart link q code before after is f at stands start entry k rule less;
    ends = ends apart link q code before after is f at stands start (length code) refl some;
  }

-- By how much an instruction changes the depth, by the sequence that it stands in.
use Rattle.std.proofs.Common.{◌≡◌, ℕ, zero, suc, ◌+◌, ◌-◌, ◌<◌, ◌≤◌, ◌&&◌, ◌==◌, Bool, true, false, not, inl, inr, pos, refl, sym, ap, ◌∙◌, subst, arith, if◌then◌else◌, is_some}
use Rattle.std.proofs.lemmas.Bool.{cases_order}
use Rattle.std.proofs.lemmas.Bool.Decides.{nat_tests, Decides-eqb}
use Rattle.std.specs.Prelude.{nat_le, nat_lt}
use Rattle.asm_target.specs.declared.sequence.Sequence.{Sequence}
use Rattle.asm_target.specs.declared.sequence.Sequence.TheVariants.{Plain, Saving, Restoring, Growth}
use Rattle.asm_target.specs.DepthChange.{added_within, depth_change, ends_sequence, is_at_depth, is_hit, longest}
use Rattle.asm_target.specs.FlowFunction.{FlowFunction, depth_view, is_in_order, is_last, is_target, role_at, sequence_at, span_at, start_at, start_of}
use Rattle.asm_target.specs.Sequences.{count_of, depth_added_by, is_of_frame, span_of}
use Rattle.asm_target.proofs.DepthLemmas.{by_sequence}
use Rattle.asm_target.proofs.RoleLemmas.{AreApart, frame_not_plain, stands_in}
use Rattle.flow_rules.specs.Lawful.{IsLawful}
use Rattle.flow_rules.specs.Passing.{role_adds}

frame_at_depth : (found : Sequence) (depth : ℕ) → is_at_depth found depth ≡ true → is_of_frame found ≡ true
frame_at_depth (Saving count total) depth is = refl
frame_at_depth (Restoring count total) depth is = refl
frame_at_depth Plain depth is = is
frame_at_depth (Growth count) depth is = is

-- a frame's sequence is judged by all of its instructions
frame_span : (found : Sequence) → is_of_frame found ≡ true → span_of found ≡ count_of found
frame_span (Saving count total) is = refl
frame_span (Restoring count total) is = refl
frame_span Plain is = refl
frame_span (Growth count) is = absurd (cc)

-- no other one adds to the depth
adds_nothing : (found : Sequence) → is_of_frame found ≡ false → depth_added_by found ≡ pos 0
adds_nothing (Saving count total) is = absurd (cc)
adds_nothing (Restoring count total) is = absurd (cc)
adds_nothing Plain is = refl
adds_nothing (Growth count) is = refl

start_low : (len : ℕ → ℕ) (k : ℕ) → start_of len k ≤ k
unfolding start_of
start_low len zero = omega arith
start_low len (suc k) =
    elim (nat_lt (suc k) (start_of len k + len (start_of len k))) as (λ b. (if b then start_of len k else suc k) ≤ suc k) [
      | true ↦ omega (arith, start_low len k)
      | false ↦ omega arith
    ]

module _ (f : FlowFunction) where
  order_at_depth : (k : ℕ) (found : Sequence) → is_at_depth found (f.depth k) ≡ true → is_in_order f k found ≡ true
  order_at_depth k (Saving count total) is = is
  order_at_depth k (Restoring count total) is = is
  order_at_depth k Plain is = is
  order_at_depth k (Growth count) is = absurd (cc)

  depth_in_order : (k : ℕ) (found : Sequence) → is_of_frame found ≡ true → is_in_order f k found ≡ true
      → is_at_depth found (f.depth k) ≡ true
  depth_in_order k (Saving count total) frame is = is
  depth_in_order k (Restoring count total) frame is = is
  depth_in_order k Plain frame is = is
  depth_in_order k (Growth count) frame is = absurd (cc)

  -- a frame's sequence counts and has its last instruction at k, n behind its first
  record Ends (k n : ℕ) : Type 0 where
    within : n ≤ k
    count : count_of (f.found (k - n)) ≡ suc n
    at_depth : is_at_depth (f.found (k - n)) (f.depth (k - n)) ≡ true
    unhit : is_hit (is_target f) (k - n) n ≡ false

  ends : (k n : ℕ) → ends_sequence (depth_view f) k n ≡ true → Ends k n
  unfolding ends_sequence
  ends k n is = record {
    within = grind (arith, nat_tests);
    count = grind (arith, nat_tests);
    at_depth = grind (arith, nat_tests);
    unhit = grind (arith, nat_tests);
  }

  ends_by : (k n : ℕ) → Ends k n → ends_sequence (depth_view f) k n ≡ true
  unfolding ends_sequence
  ends_by k n e =
      let within = e.within in
      let low : nat_le n k ≡ true = grind (arith, nat_tests) in
      let counted : (count_of (f.found (k - n)) == suc n) ≡ true = (Decides-eqb (count_of (f.found (k - n))) (suc n)).1 e.count in
      rw (low, counted, e.at_depth, e.unhit) refl

  -- a sequence that counts is in order, and no jump goes into it
  record Counts (s : ℕ) : Type 0 where
    same : sequence_at f s ≡ f.found s
    order : is_in_order f s (f.found s) ≡ true
    unhit : is_hit (is_target f) s (count_of (f.found s) - 1) ≡ false

  count_here : (s : ℕ) → is_in_order f s (f.found s) ≡ true → is_hit (is_target f) s (count_of (f.found s) - 1) ≡ false
      → sequence_at f s ≡ f.found s
  unfolding sequence_at
  count_here s order unhit = rw (order, unhit) refl

  and_true : (one other : Bool) → (one && other) ≡ true → (one ≡ true) × (other ≡ true)
  and_true true other is = (refl, is)
  and_true false other is = absurd (cc)

  not_true : (one : Bool) → not one ≡ true → one ≡ false
  not_true true is = sym is
  not_true false is = refl

  framed : (s : ℕ) → is_of_frame (sequence_at f s) ≡ true → Counts s
  unfolding sequence_at
  framed s frame =
      let order : Bool = is_in_order f s (f.found s) in
      let hit : Bool = is_hit (is_target f) s (count_of (f.found s) - 1) in
      elim (order && not hit) as (λ b. (order && not hit) ≡ b → is_of_frame (if b then f.found s else Plain) ≡ true → Counts s) [
        | true ↦ (λ is frame.
            let both = and_true order (not hit) is in
            let unhit : hit ≡ false = not_true hit both.1 in
            record { same = count_here s both.0 unhit; order = both.0; unhit = unhit })
        | false ↦ (λ is frame. absurd (cc))
      ] refl frame

  module _ (lawful : IsLawful f) where
    apart : AreApart f
    apart = record { some = lawful.some; apart = lawful.apart }

    ended : (k n : ℕ) → Ends k n → sequence_at f (k - n) ≡ f.found (k - n)
    ended k n e =
        let less : count_of (f.found (k - n)) - 1 ≡ n = omega (arith, e.count) in
        count_here (k - n) (order_at_depth (k - n) (f.found (k - n)) e.at_depth)
        (subst (λ (m : ℕ). is_hit (is_target f) (k - n) m ≡ false) (sym less) e.unhit)

    ended_span : (k n : ℕ) → Ends k n → span_at f (k - n) ≡ suc n
    ended_span k n e =
        ap span_of (ended k n e)
        ∙ frame_span (f.found (k - n)) (frame_at_depth (f.found (k - n)) (f.depth (k - n)) e.at_depth) ∙ e.count

    -- the instruction stands in it
    ended_start : (k n : ℕ) → Ends k n → start_at f k ≡ k - n
    ended_start k n e =
        let within = e.within in
        let plain = frame_not_plain (f.found (k - n)) (frame_at_depth (f.found (k - n)) (f.depth (k - n)) e.at_depth) in
        let same : k - n + n ≡ k = omega arith in
        let there = stands_in f apart (k - n) n plain (omega (arith, ended_span k n e)) in
        subst (λ (p : ℕ). start_at f p ≡ k - n) same there

    ended_role : (k n : ℕ) → Ends k n → role_at f k ≡ f.found (k - n)
    ended_role k n e = ap (sequence_at f) (ended_start k n e) ∙ ended k n e

    ended_last : (k n : ℕ) → Ends k n → is_last f k ≡ true
    ended_last k n e =
        let within = e.within in
        let span : span_at f (start_at f k) ≡ suc n = ap (span_at f) (ended_start k n e) ∙ ended_span k n e in
        (Decides-eqb (suc k) (start_at f k + span_at f (start_at f k))).1 (omega (arith, span, ended_start k n e))

    -- and the last instruction of a frame's sequence that counts is one at which it ends
    ends_at_last : (k : ℕ) → is_last f k ≡ true → is_of_frame (role_at f k) ≡ true
        → (k - start_at f k < longest) × Ends k (k - start_at f k)
    ends_at_last k last frame =
        let s : ℕ = start_at f k in
        let low : s ≤ k = start_low (span_at f) k in
        let is = framed s frame in
        let span : span_at f s ≡ count_of (f.found s) =
        ap span_of is.same ∙ frame_span (f.found s) (subst (λ (q : Sequence). is_of_frame q ≡ true) is.same frame) in
        let past : suc k ≡ s + span_at f s = (Decides-eqb (suc k) (s + span_at f s)).0 last in
        let count : count_of (f.found s) ≡ suc (k - s) = omega arith in
        let back : k - (k - s) ≡ s = omega arith in
        let less : count_of (f.found s) - 1 ≡ k - s = omega arith in
        let depth = depth_in_order s (f.found s) (subst (λ (q : Sequence). is_of_frame q ≡ true) is.same frame) is.order in
        let unhit = subst (λ (m : ℕ). is_hit (is_target f) s m ≡ false) less is.unhit in (
          omega (arith, lawful.short s),
          record {
            within = omega arith;
            count = subst (λ (p : ℕ). count_of (f.found p) ≡ suc (k - s)) (sym back) count;
            at_depth = subst (λ (p : ℕ). is_at_depth (f.found p) (f.depth p) ≡ true) (sym back) depth;
            unhit = subst (λ (p : ℕ). is_hit (is_target f) p (k - s) ≡ false) (sym back) unhit;
          },
        )

    added_some : (k m n : ℕ) → n < m → Ends k n → added_within (depth_view f) k m ≡ depth_added_by (role_at f k)
    added_some k zero n less e = absurd (omega arith)
    added_some k (suc m) n less e =
        elim (ends_sequence (depth_view f) k m) as (λ b. ends_sequence (depth_view f) k m ≡ b
        → (if b then depth_added_by (f.found (k - m)) else added_within (depth_view f) k m) ≡ depth_added_by (role_at f k)) [
          | true ↦ (λ is. ap depth_added_by (sym (ended_role k m (ends k m is))))
          | false ↦ (λ is.
              elim (cases_order n m) as (λ _. added_within (depth_view f) k m ≡ depth_added_by (role_at f k)) [
                | inl same ↦ absurd (cc (is, ends_by k n e, same))
                | inr (inl under) ↦ added_some k m n under e
                | inr (inr over) ↦ absurd (omega arith)
              ])
        ] refl

    added_none : (k m : ℕ) → ((n : ℕ) → ends_sequence (depth_view f) k n ≡ false) → added_within (depth_view f) k m ≡ pos 0
    added_none k zero none = refl
    added_none k (suc m) none = rw (none m) (added_none k m none)

    -- where the instruction isn't the last of a frame's sequence, none ends there
    none_ends : (k : ℕ) → (is_last f k ≡ true → is_of_frame (role_at f k) ≡ true → ⊥) → (n : ℕ)
        → ends_sequence (depth_view f) k n ≡ false
    none_ends k unlike n =
        elim (ends_sequence (depth_view f) k n) as (λ b. ends_sequence (depth_view f) k n ≡ b → b ≡ false) [
          | true ↦ (λ is.
              let e = ends k n is in
              let frame = frame_at_depth (f.found (k - n)) (f.depth (k - n)) e.at_depth in
              absurd (unlike (ended_last k n e) (ap is_of_frame (ended_role k n e) ∙ frame)))
          | false ↦ (λ is. refl)
        ] refl

    added_by_role : (k : ℕ) → added_within (depth_view f) k longest ≡ role_adds f k
    added_by_role k = by (is_last f k) (is_of_frame (role_at f k)) refl refl
      where
        by : (last frame : Bool) → is_last f k ≡ last → is_of_frame (role_at f k) ≡ frame
            → added_within (depth_view f) k longest ≡ (if is_last f k then depth_added_by (role_at f k) else pos 0)
        by false frame last is =
            rw last (added_none k longest (none_ends k (λ ends framed. cc)))
        by true false last is =
            rw last (added_none k longest (none_ends k (λ ends framed. cc)) ∙ sym (adds_nothing (role_at f k) is))
        by true true last is =
            (let there = ends_at_last k last is in
            rw last (added_some k longest (k - start_at f k) there.0 there.1))

    pub changed_by_role : is_some f.link ≡ true → (k : ℕ) → depth_change (depth_view f) k ≡ role_adds f k
    changed_by_role link k = by_sequence (depth_view f) k link ∙ added_by_role k

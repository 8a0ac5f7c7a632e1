-- At which depth an instruction of a sequence stands, and what a plain one leaves alone.
use Rattle.std.proofs.Common.{◌≡◌, ℕ, ◌+◌, ◌-◌, ◌<◌, ◌==◌, ◌&&◌, Bool, true, false, not, Option, Some, None, is_some, refl, sym, ap, ◌∙◌, subst, arith, inl, inr}
use Rattle.std.proofs.lemmas.Bool.Decides.{nat_tests, Decides-eqb}
use Rattle.machine_effect.specs.declared.flow.Flow.{Flow}
use Rattle.machine_effect.specs.declared.next.Next.{Next}
use Rattle.machine_effect.specs.Applies.{link_of}
use Rattle.asm_target.specs.declared.sequence.Sequence.{Sequence}
use Rattle.asm_target.specs.declared.sequence.Sequence.TheVariants.{Plain, Saving, Restoring, Growth}
use Rattle.asm_target.specs.DepthChange.{is_call}
use Rattle.asm_target.specs.FlowFunction.{FlowFunction, call_goal, is_among, is_goal, is_in_order, jump_goal, next_at, role_at, sequence_at, start_at}
use Rattle.asm_target.specs.FlowRules.{IsFlowSound, is_kept, links_elsewhere}
use Rattle.asm_target.specs.FlowRules as flow
use Rattle.asm_target.specs.Sequences.{count_of, is_of_frame, is_plain, is_saving}
use Rattle.image_model.specs.Image.{flow_in, has_link, is_growth_call}
use Rattle.image_model.specs.Joined.{Code, IsInRow, IsMachineCode, IsTold, Text, joined, line_of}
use Rattle.image_model.specs.Soundness.{IsPlainLine, SuitsRole}
use Rattle.image_model.proofs.ActionLemmas.{acts_linked, growth_most}
use Rattle.image_model.proofs.LineLemmas as lines
use Rattle.image_model.proofs.LineLemmas.{if_on, kept_is, left_off, linked_here}
use Rattle.image_model.proofs.PositionLemmas as positions
use Rattle.image_model.proofs.PositionLemmas.{Counts, cases_counts}
use Rattle.image_model.proofs.RuleLemmas as rules
use Rattle.image_model.proofs.RuleLemmas.{and_off, not_off, or_off, unless_not}

among_same : (one other : ℕ → Bool) → ((at : ℕ) → one at ≡ other at) → (goal : Option ℕ) → is_among one goal ≡ is_among other goal
among_same one other same (Some goal) = same goal
among_same one other same None = refl

and_both : (one other : Bool) → (one && other) ≡ true → (one ≡ true) × (other ≡ true)
and_both true other is = (refl, is)
and_both false other is = absurd (cc)

module _ (text : Text) (code : Code) (row : IsInRow code) (told : IsTold text code) (machine : IsMachineCode text code)
    (sound : IsFlowSound code.rules) where
  abbrev f : FlowFunction
  f = code.rules

  -- a plain instruction is no call of a sequence
  no_growth : (k : ℕ) → role_at f k ≡ Plain → flow.is_growth_call f k ≡ false
  no_growth k plain = rw plain refl

  plain_line : (k : ℕ) → k < f.count → role_at f k ≡ Plain → has_link (joined text) ≡ true
      → IsPlainLine (joined text) (line_of code k)
  plain_line k inside plain some =
      let on : is_some f.link ≡ true = lines.link_is text code row told machine sound ∙ some in
      let same : f.flow k ≡ flow_in (joined text) (line_of code k) = lines.flow_is text code row told machine sound k inside in
      let goes : next_at f k ≡ (code.placed k).effect.next = lines.next_is text code row told machine sound k inside in
      let framed : is_of_frame (role_at f k) ≡ false = ap is_of_frame plain in
      let two = if_on _ _ _ on (rules.keeps f sound k inside).f2 in
      let kept : is_kept (f.flow k).sp ≡ true = not_off (is_kept (f.flow k).sp) (left_off _ _ framed two) in
      let seven = and_off _ _ on (rules.keeps f sound k inside).f7 in
      let eight = or_off _ _ (and_off _ _ on (rules.keeps f sound k inside).f8) in
      let none = no_growth k plain in
      let saves : is_saving (role_at f k) ≡ false = ap is_saving plain in
      record {
        sp = sym (ap (λ (flow : Flow). flow.sp) same) ∙ kept_is (f.flow k).sp kept;
        unwritten = λ zero_depth.
            let at : (f.depth k == 0) ≡ true = (Decides-eqb (f.depth k) 0).1 zero_depth in
            sym (ap (λ (flow : Flow). flow.writes_link) same) ∙ left_off _ _ none (and_off _ _ at eight.0);
        unstored = λ zero_depth.
            let at : (f.depth k == 0) ≡ true = (Decides-eqb (f.depth k) 0).1 zero_depth in
            sym (ap (λ (flow : Flow). flow.stores_link) same) ∙ left_off _ _ saves (and_off _ _ at (or_off _ _ eight.1).0);
        calls = λ call.
            let calls : is_call (next_at f k) ≡ true = ap is_call goes ∙ call in
            let off : not (flow.is_growth_call f k) ≡ true = ap not none in
            let rest = or_off _ _ (and_off _ _ off (and_off _ _ calls seven)) in
            let zero : (f.depth k == 0) ≡ false = rest.0 in
            let more : 0 < f.depth k = grind (arith, nat_tests) in
            let here : links_elsewhere (link_of (code.placed k).effect.next) f.link ≡ false =
            ap (λ (n : Next). links_elsewhere (link_of n) f.link) (sym goes) ∙ rest.1 in
            (more, linked_here (link_of (code.placed k).effect.next) f.link (machine.links k inside call ∙ some) here ∙ told.link);
      }

  -- a sequence that counts is the one that was found at its start
  found_is : (k : ℕ) (role : Sequence) → role_at f k ≡ role → is_plain role ≡ false
      → (f.found (start_at f k) ≡ role) × (is_in_order f (start_at f k) role ≡ true)
  found_is k role is some =
      elim (cases_counts f (start_at f k)) as (λ _. (f.found (start_at f k) ≡ role) × (is_in_order f (start_at f k) role ≡ true)) [
        | inl plain ↦ absurd (cc (some, sym (ap is_plain (sym is ∙ plain))))
        | inr counts ↦
            (let found : f.found (start_at f k) ≡ role = sym counts.same ∙ is in
            (found, subst (λ (q : Sequence). is_in_order f (start_at f k) q ≡ true) found counts.order))
      ]

  has_some : (k : ℕ) → k < f.count → (role : Sequence) → role_at f k ≡ role → is_plain role ≡ false → is_some f.link ≡ true
  has_some k inside role is some =
      lines.link_is text code row told machine sound
      ∙ acts_linked text.shape (line_of code k).parts text.shape.link text.growth (role_at f k)
      (lines.acts text code row told machine sound k inside) (ap is_plain is ∙ some)

  saving_depth : (k count total : ℕ) → k < f.count → role_at f k ≡ Saving count total → f.depth k ≡ 0
  saving_depth k count total inside is =
      let s : ℕ = start_at f k in
      let low = positions.start_low f machine.lawful k in
      let on = has_some k inside (Saving count total) is refl in
      let eight = (or_off _ _ (or_off _ _ (and_off _ _ on (rules.keeps f sound s (omega arith)).f8)).1).1 in
      let back : start_at f s ≡ s = positions.start_back f machine.lawful k in
      let saves : is_saving (role_at f s) ≡ true = ap (λ (p : ℕ). is_saving (sequence_at f p)) back ∙ ap is_saving is in
      let first : (start_at f s == s) ≡ true = (Decides-eqb (start_at f s) s).1 back in
      let zero : (f.depth s == 0) ≡ true = not_off (f.depth s == 0) (and_off _ _ first (and_off _ _ saves eight)) in
      lines.level text code row told machine sound k inside ∙ (Decides-eqb (f.depth s) 0).0 zero

  restoring_depth : (k count total : ℕ) → k < f.count → role_at f k ≡ Restoring count total → f.depth k ≡ total
  restoring_depth k count total inside is =
      let there = found_is k (Restoring count total) is refl in
      lines.level text code row told machine sound k inside ∙ sym ((Decides-eqb total (f.depth (start_at f k))).0 there.1)

  growth_depth : (k count : ℕ) → k < f.count → role_at f k ≡ Growth count
      → (f.depth k ≡ 0) × (is_growth_call text.is_growth_routine (code.placed (start_at f k + (count - 2))).effect.next ≡ true)
  growth_depth k count inside is =
      let s : ℕ = start_at f k in
      let low = positions.start_low f machine.lawful k in
      let there = found_is k (Growth count) is refl in
      let test : Bool = is_among f.is_growth_routine (call_goal (next_at f (s + (count - 2)))) in
      let back : Bool = is_goal (jump_goal (next_at f (s + (count - 1)))) (f.at 0) in
      let first : ((f.depth s == 0) ≡ true) × ((test && back) ≡ true) = and_both (f.depth s == 0) (test && back) there.1 in
      let second : (test ≡ true) × (back ≡ true) = and_both test back first.1 in
      let counted : count_of (f.found s) ≡ count = ap count_of there.0 in
      let acting = subst (λ (q : Sequence). lines.Acting text code row told machine sound k q) is (lines.acts text code row told machine sound k inside) in
      let most = growth_most text.shape (line_of code k).parts text.shape.link text.growth count acting in
      let within = machine.lawful.within s (omega arith) in
      let goes = lines.next_is text code row told machine sound (s + (count - 2)) (omega arith) in (
        lines.level text code row told machine sound k inside ∙ (Decides-eqb (f.depth s) 0).0 first.0,
        sym (ap (λ (n : Next). is_among text.is_growth_routine (call_goal n)) goes)
            ∙ sym (among_same f.is_growth_routine text.is_growth_routine told.is_growth_routine (call_goal (next_at f (s + (count - 2)))))
            ∙ second.0,
      )

  pub suits : (k : ℕ) → k < f.count → (role : Sequence) → role_at f k ≡ role → SuitsRole (joined text) role (line_of code k)
  suits k inside Plain is = plain_line k inside is
  suits k inside (Saving count total) is = saving_depth k count total inside is
  suits k inside (Restoring count total) is = restoring_depth k count total inside is
  suits k inside (Growth count) is = growth_depth k count inside is

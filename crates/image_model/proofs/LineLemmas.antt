-- The instructions of a function that breaks no flow rule.
use Rattle.std.proofs.Common.{◌≡◌, ℕ, zero, suc, pos, ◌+◌, ◌-◌, ◌<◌, ◌==◌, ◌&&◌, inl, inr, Bool, true, false, not, Option, Some, None, is_some, refl, sym, ap, ◌∙◌, subst, arith, if◌then◌else◌}
use Rattle.std.proofs.lemmas.Bool.{cases_order}
use Rattle.std.proofs.lemmas.Bool.Decides.{Decides-eqb}
use Rattle.std.proofs.lemmas.Int.{ints}
use Rattle.machine_effect.specs.declared.flow.Flow.{Flow}
use Rattle.machine_effect.specs.declared.flow.SpMove.{SpMove}
use Rattle.machine_effect.specs.declared.flow.SpMove.TheVariants.{Keep, By, Other}
use Rattle.machine_effect.specs.declared.next.Next.TheVariants as next
use Rattle.machine_effect.specs.Flow.{flow_of, is_named}
use Rattle.asm_target.specs.declared.sequence.Sequence.{Sequence}
use Rattle.asm_target.specs.declared.sequence.Sequence.TheVariants.{Plain, Saving, Restoring, Growth}
use Rattle.asm_target.specs.DepthChange.{depth_change, moved_by}
use Rattle.asm_target.specs.FlowFunction.{FlowFunction, depth_view, is_last, next_at, role_at, span_at, start_at}
use Rattle.asm_target.specs.FlowRules.{IsFlowSound, can_follow, can_pass, is_kept, is_other, links_elsewhere}
use Rattle.asm_target.specs.Sequences.{depth_added_by, is_plain, span_of}
use Rattle.asm_target.proofs.DepthLemmas.{by_move}
use Rattle.flow_rules.specs.Passing.{role_adds}
use Rattle.flow_rules.proofs.ChangeLemmas.{changed_by_role}
use Rattle.flow_rules.proofs.HitLemmas.{unequal}
use Rattle.image_model.specs.Actions.{ActsAs}
use Rattle.image_model.specs.Image.{Line, flow_in, has_link}
use Rattle.image_model.specs.Joined.{Code, IsInRow, IsMachineCode, IsTold, Text, joined, line_of}
use Rattle.image_model.specs.Soundness.{ChangesByMove, ChangesByRole}
use Rattle.image_model.proofs.ActionLemmas.{acts_linked, falls_inside}
use Rattle.image_model.proofs.PositionLemmas as positions
use Rattle.image_model.proofs.PositionLemmas.{Counts, cases_counts}
use Rattle.image_model.proofs.RuleLemmas as rules
use Rattle.image_model.proofs.RuleLemmas.{and_off, first_depth, followed, not_off, or_off, unless_not}

pub kept_is : (move : SpMove) → is_kept move ≡ true → move ≡ Keep
kept_is Keep is = refl
kept_is (By k) is = absurd (cc)
kept_is Other is = absurd (cc)

named_is : (register : ℕ) (link : Option ℕ) → is_named register link ≡ true → Some register ≡ link
named_is register (Some link) is = ap Some (sym ((Decides-eqb link register).0 is))
named_is register None is = absurd (cc)

-- a call that links, and not elsewhere
pub linked_here : (made link : Option ℕ) → is_some made ≡ true → links_elsewhere made link ≡ false → made ≡ link
linked_here (Some register) link some here = named_is register link (not_off (is_named register link) here)
linked_here None link some here = absurd (cc)

if_off : (test one other : Bool) → test ≡ false → (if test then one else other) ≡ false → other ≡ false
if_off true one other is off = absurd (cc)
if_off false one other is off = off

pub if_on : (test one other : Bool) → test ≡ true → (if test then one else other) ≡ false → one ≡ false
if_on true one other is off = off
if_on false one other is off = absurd (cc)

pub left_off : (one other : Bool) → other ≡ false → (one && not other) ≡ false → one ≡ false
left_off true true is off = absurd (cc)
left_off true false is off = off
left_off false other is off = refl

passes_not_plain : (role : Sequence) → 1 < span_of role → is_plain role ≡ false
passes_not_plain Plain less = absurd (omega arith)
passes_not_plain (Saving count total) less = refl
passes_not_plain (Restoring count total) less = refl
passes_not_plain (Growth count) less = refl

module _ (text : Text) (code : Code) (row : IsInRow code) (told : IsTold text code) (machine : IsMachineCode text code)
    (sound : IsFlowSound code.rules) where
  abbrev f : FlowFunction
  f = code.rules

  abbrev line : ℕ → Line
  line = line_of code

  -- what it does, as the rules see it
  pub flow_is : (k : ℕ) → k < f.count → f.flow k ≡ flow_in (joined text) (line k)
  flow_is k inside = told.flow k inside

  pub next_is : (k : ℕ) → k < f.count → next_at f k ≡ (code.placed k).effect.next
  unfolding flow_of
  next_is k inside = ap (λ (flow : Flow). flow.next) (told.flow k inside)

  pub link_is : is_some f.link ≡ has_link (joined text)
  link_is = ap is_some told.link

  pub part_is : (k : ℕ) → (line k).parts (line k).index ≡ code.placed k
  part_is k =
      let low = positions.start_low f machine.lawful k in
      let same : start_at f k + (k - start_at f k) ≡ k = omega arith in
      ap code.placed same

  pub index_inside : (k : ℕ) → k - start_at f k < span_at f (start_at f k)
  index_inside k =
      omega (arith, positions.start_low f machine.lawful k, positions.start_inside f machine.lawful k)

  -- the instructions of a line's sequence do what another is for
  abbrev pub Acting : ℕ → Sequence → Type 0
  Acting k role = ActsAs text.shape (line k).parts text.shape.link text.growth role

  pub acts : (k : ℕ) → k < f.count → ActsAs text.shape (line k).parts text.shape.link text.growth (role_at f k)
  acts k inside =
      let s : ℕ = start_at f k in
      let low = positions.start_low f machine.lawful k in
      elim (cases_counts f s) as (λ _. ActsAs text.shape (line k).parts text.shape.link text.growth (role_at f k)) [
        | inl plain ↦
            subst (λ (q : Sequence). ActsAs text.shape (line k).parts text.shape.link text.growth q) (sym plain) tt
        | inr counts ↦
            subst (λ (q : Sequence). ActsAs text.shape (line k).parts text.shape.link text.growth q) (sym counts.same)
            (machine.acts s (omega arith))
      ]

  pub linked : has_link (joined text) ≡ true → (k : ℕ) → ChangesByRole (joined text) (line k)
  linked some k =
      let change : depth_change (depth_view f) k ≡ role_adds f k = changed_by_role f machine.lawful (link_is ∙ some) k in
      let low = positions.start_low f machine.lawful k in
      record {
        within = λ less.
            let off : is_last f k ≡ false =
            unequal (suc k) (start_at f k + span_at f (start_at f k)) (λ same. omega arith) in
            change ∙ ap (λ (b : Bool). if b then depth_added_by (role_at f k) else pos 0) off;
        last = λ same.
            let on : is_last f k ≡ true = (Decides-eqb (suc k) (start_at f k + span_at f (start_at f k))).1 (omega arith) in
            change ∙ ap (λ (b : Bool). if b then depth_added_by (role_at f k) else pos 0) on;
      }

  pub unlinked : has_link (joined text) ≡ false → (k : ℕ) → k < f.count → ChangesByMove (joined text) (line k)
  unlinked none k inside = record {
    change = by_move (depth_view f) k (link_is ∙ none) ∙ ap moved_by (flow_is k inside);
    told =
        ap (λ (flow : Flow). is_other flow.sp) (sym (flow_is k inside))
        ∙ if_off _ _ _ (link_is ∙ none) (rules.keeps f sound k inside).f2;
  }

  -- behind an instruction that may be passed, the next one stands at the depth behind it
  pub passes_on : (k : ℕ) → can_pass (next_at f k) ≡ true → can_follow f k (suc k) ≡ true
  passes_on k pass =
      let same : (suc k == suc k) ≡ true = (Decides-eqb (suc k) (suc k)).1 refl in
      rw (pass, same) refl

  -- a sequence stands at one depth
  pub level : (k : ℕ) → k < f.count → f.depth k ≡ f.depth (start_at f k)
  level zero inside = ap f.depth (sym (positions.start_first f))
  level (suc k) inside =
      let low = positions.start_low f machine.lawful k in
      let under = positions.start_inside f machine.lawful k in
      let past : ℕ = start_at f k + span_at f (start_at f k) in
      elim (cases_order (suc k) past) as (λ _. f.depth (suc k) ≡ f.depth (start_at f (suc k))) [
        | inl same ↦ ap f.depth (sym (positions.start_behind f machine.lawful k same))
        | inr (inr more) ↦ absurd (omega arith)
        | inr (inl less) ↦
            (let acting = acts k (omega arith) in
            let some : is_some text.shape.link ≡ true =
            acts_linked text.shape (line k).parts text.shape.link text.growth (role_at f k) acting
            (passes_not_plain (role_at f k) (omega arith)) in
            let falls : (code.placed k).effect.next ≡ next.Fall =
            ap (λ part. part.effect.next) (sym (part_is k))
            ∙ falls_inside text.shape (line k).parts text.shape.link text.growth (role_at f k) acting (k - start_at f k) (omega arith) in
            let pass : can_pass (next_at f k) ≡ true = ap can_pass (next_is k (omega arith) ∙ falls) in
            let none = (linked some k).within (omega arith) in
            let out = followed f sound k (omega arith) (suc k) inside (passes_on k pass) in
            let same : f.depth (suc k) ≡ f.depth k = omega (arith, ints) in
            same ∙ level k (omega arith) ∙ ap f.depth (sym (positions.start_within f machine.lawful k less)))
      ]

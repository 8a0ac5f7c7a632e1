-- Where the machine goes on from an instruction of a function that breaks no flow rule.
use Rattle.std.proofs.Common.{◌≡◌, ℕ, zero, suc, pos, ◌+◌, ◌-◌, ◌<◌, ◌==◌, ◌||◌, Bool, true, false, not, Some, refl, sym, ap, ◌∙◌, subst, arith, inl, inr, if◌then◌else◌}
use Rattle.std.proofs.lemmas.Bool.{cases_order}
use Rattle.std.proofs.lemmas.Bool.Decides.{nat_tests, Decides-eqb}
use Rattle.std.proofs.lemmas.Int.{ints}
use Rattle.machine_effect.specs.declared.flow.Flow.{Flow}
use Rattle.machine_effect.specs.declared.flow.SpMove.TheVariants.{Keep}
use Rattle.machine_effect.specs.declared.next.Next.{Next}
use Rattle.machine_effect.specs.declared.next.Next.TheVariants as next
use Rattle.asm_target.specs.DepthChange.{any_below, depth_added, is_call, is_return, moved_by}
use Rattle.asm_target.specs.FlowFunction.{FlowFunction, Range, is_among, is_goal, is_within, jump_goal, next_at, role_at, sequence_at, span_at, start_at}
use Rattle.asm_target.specs.FlowRules.{IsFlowSound, can_pass, is_indirect_jump, is_leaving, is_start, is_stray}
use Rattle.image_model.specs.Image.{Line, flow_in, has_link, is_served, next_of}
use Rattle.image_model.specs.Joined.{Code, IsInRow, IsMachineCode, IsSoundFunction, IsTold, Text, joined, line_of}
use Rattle.image_model.specs.Soundness.{Follows, Lands}
use Rattle.image_model.proofs.ActionLemmas.{adds_nothing}
use Rattle.image_model.proofs.LineLemmas as lines
use Rattle.image_model.proofs.PositionLemmas as positions
use Rattle.image_model.proofs.RuleLemmas as rules
use Rattle.image_model.proofs.RuleLemmas.{and_off, first_depth, followed, not_off, unless_not}
use Rattle.image_model.proofs.SuitLemmas.{suits}

or_left : (one other : Bool) → (one || other) ≡ true → other ≡ false → one ≡ true
or_left true other is off = refl
or_left false other is off = absurd (cc)

-- a number that meets the test, where some number below n does
some_meets : (test : ℕ → Bool) (n : ℕ) → any_below test n ≡ true → (j : ℕ) × (j < n) × (test j ≡ true)
some_meets test zero some = absurd (cc)
some_meets test (suc n) some =
    elim (test n) as (λ b. test n ≡ b → (j : ℕ) × (j < suc n) × (test j ≡ true)) [
      | true ↦ (λ is. (n, omega arith, is))
      | false ↦ (λ is.
          let before : any_below test n ≡ true = or_left (any_below test n) (test n) some is in
          let there = some_meets test n before in
          (there.0, omega (arith, there.1), there.2))
    ] refl

or_first : (one other : Bool) → one ≡ true → (one || other) ≡ true
or_first true other is = refl
or_first false other is = absurd (cc)

or_second : (one other : Bool) → other ≡ true → (one || other) ≡ true
or_second true other is = refl
or_second false other is = is

moved_still : (flow : Flow) → flow.sp ≡ Keep → moved_by flow ≡ pos 0
moved_still flow keep =
    elim (is_call flow.next || is_return flow.next) as (λ b. (if b then pos 0 else depth_added flow.sp) ≡ pos 0) [
      | true ↦ refl
      | false ↦ ap depth_added keep
    ]

jump_not_fall : (goes : Next) (goal : ℕ) → jump_goal goes ≡ Some goal → ¬ (goes ≡ next.Fall)
jump_not_fall goes goal jumps falls = cc (jumps, ap jump_goal falls)

-- what stands in the image, as far as it matters to one function: its own instructions and calls; no entry but the first of its
-- own addresses; and these lie in the text
pub record Stands (text : Text) (code : Code) : Type 0 where
  pub line : (k : ℕ) → k < code.rules.count → (joined text).line_at (code.rules.at k) ≡ Some (line_of code k)
  pub entry : (goal : ℕ) → text.is_entry goal ≡ true → is_within code.rules.own goal ≡ true → goal ≡ code.rules.at 0
  pub own : (goal : ℕ) → is_within code.rules.own goal ≡ true → is_within text.range goal ≡ true
  pub served : (k : ℕ) → k < code.rules.count → is_served text.is_growth_routine (code.placed k).effect.next ≡ true
      → (joined text).after_call (code.placed k).past ≡ Some (code.rules.at k)

module _ (text : Text) (code : Code) (row : IsInRow code) (told : IsTold text code) (machine : IsMachineCode text code)
    (sound : IsFlowSound code.rules) (here : Stands text code) where
  abbrev f : FlowFunction
  f = code.rules

  -- an instruction behind which the machine doesn't go on changes no depth
  unchanged : (k : ℕ) → k < f.count → ¬ (next_of (line_of code k) ≡ next.Fall) → (line_of code k).change ≡ pos 0
  unchanged k inside ends =
      let low = positions.start_low f machine.lawful k in
      let under = positions.start_inside f machine.lawful k in
      let past : ℕ = start_at f k + span_at f (start_at f k) in
      elim (has_link (joined text)) as (λ b. has_link (joined text) ≡ b → (line_of code k).change ≡ pos 0) [
        | true ↦ (λ some.
            let by = lines.linked text code row told machine sound some k in
            elim (cases_order (suc k) past) as (λ _. (line_of code k).change ≡ pos 0) [
              | inl same ↦
                  by.last (omega arith)
                  ∙ adds_nothing text.shape (line_of code k).parts text.shape.link text.growth (role_at f k)
                  (lines.acts text code row told machine sound k inside) (k - start_at f k) (omega arith)
                  (λ falls. ends (ap (λ part. part.effect.next) (sym (lines.part_is text code row told machine sound k)) ∙ falls))
              | inr (inl less) ↦ by.within (omega arith)
              | inr (inr more) ↦ absurd (omega arith)
            ])
        | false ↦ (λ none.
            (lines.unlinked text code row told machine sound none k inside).change
            ∙ moved_still (flow_in (joined text) (line_of code k)) (machine.still k inside ends))
      ] refl

  behind : (k : ℕ) → k < f.count → can_pass (next_of (line_of code k)) ≡ true
      → (other : Line) × ((joined text).line_at (code.placed k).past ≡ Some other) × Follows (line_of code k) other
  behind k inside passes =
      let low = positions.start_low f machine.lawful k in
      let pass : can_pass (next_at f k) ≡ true = ap can_pass (lines.next_is text code row told machine sound k inside) ∙ passes in
      let unended : (suc k == f.count) ≡ false = and_off _ _ pass (rules.keeps f sound k inside).f6 in
      let less : suc k < f.count = grind (arith, nat_tests) in (
        line_of code (suc k),
        subst (λ (at : ℕ). (joined text).line_at at ≡ Some (line_of code (suc k))) (row.follows k less) (here.line (suc k) less),
        record {
          entry = refl;
          depth = followed f sound k inside (suc k) less (lines.passes_on text code row told machine sound k pass);
          inside = λ more.
              let same : start_at f (suc k) ≡ start_at f k = positions.start_within f machine.lawful k (omega arith) in
              record {
                index = omega arith;
                role = ap (sequence_at f) same;
                parts = ap (λ (s : ℕ). λ (j : ℕ). code.placed (s + j)) same;
              };
          anew = λ last.
              let same : start_at f (suc k) ≡ suc k = positions.start_behind f machine.lawful k (omega arith) in
              omega arith;
        },
      )

  -- where a jump goes, as the rules see it
  jump_is : (k goal : ℕ) → k < f.count → jump_goal (next_of (line_of code k)) ≡ Some goal → jump_goal (next_at f k) ≡ Some goal
  jump_is k goal inside goes = ap jump_goal (lines.next_is text code row told machine sound k inside) ∙ goes

  lands_at : (k goal j : ℕ) → k < f.count → jump_goal (next_at f k) ≡ Some goal → f.at j ≡ goal
      → is_goal (jump_goal (next_at f k)) (f.at j) ≡ true
  lands_at k goal j inside goes there =
      ap (λ found. is_goal found (f.at j)) goes ∙ (Decides-eqb goal (f.at j)).1 (sym there)

  jumps : (k : ℕ) → k < f.count → (goal : ℕ) → jump_goal (next_of (line_of code k)) ≡ Some goal
      → is_within text.range goal ≡ true → text.is_entry goal ≡ false
      → (other : Line) × ((joined text).line_at goal ≡ Some other) × Lands (line_of code k) other
  jumps k inside goal goes within unentered =
      let on = jump_is k goal inside goes in
      let stray : is_stray f goal ≡ false = sym (ap (is_among (is_stray f)) on) ∙ (rules.keeps f sound k inside).f4 in
      let lies : is_within f.text goal ≡ true = ap (λ (range : Range). is_within range goal) told.range ∙ within in
      let one : (is_start f goal || f.is_entry goal) ≡ true = unless_not _ _ lies stray in
      let starts : is_start f goal ≡ true = or_left _ _ one (told.is_entry goal ∙ unentered) in
      let found = some_meets (λ j. f.at j == goal) f.count starts in
      let j : ℕ = found.0 in
      let less : j < f.count = found.1 in
      let there : f.at j ≡ goal = (Decides-eqb (f.at j) goal).0 found.2 in
      let lands = lands_at k goal j inside on there in
      let first : start_at f j ≡ j = positions.start_there f machine.lawful k j inside lands in (
        line_of code j,
        subst (λ (at : ℕ). (joined text).line_at at ≡ Some (line_of code j)) there (here.line j less),
        record {
          entry = refl;
          depth = followed f sound k inside j less (or_second _ _ lands);
          index = omega arith;
        },
      )

  left : (k : ℕ) → k < f.count → is_leaving f (next_at f k) ≡ true → f.depth k ≡ 0
  left k inside leaves = (Decides-eqb (f.depth k) 0).0 (unless_not _ _ leaves (rules.keeps f sound k inside).f3)

  jumps_out : (k goal : ℕ) → k < f.count → jump_goal (next_at f k) ≡ Some goal → is_within f.own goal ≡ false → f.depth k ≡ 0
  jumps_out k goal inside on out =
      left k inside
      (or_second (is_return (next_at f k)) _ (or_second (is_indirect_jump (next_at f k)) _
      (ap (is_among (λ goal. not (is_within f.own goal))) on ∙ ap not out)))

  -- a jump to the function's own entry is one at depth 0
  jumps_first : (k : ℕ) → k < f.count → jump_goal (next_of (line_of code k)) ≡ Some (f.at 0) → f.depth k ≡ 0
  jumps_first k inside goes =
      let on = jump_is k (f.at 0) inside goes in
      let lands = lands_at k (f.at 0) 0 inside on refl in
      let change = unchanged k inside (jump_not_fall (next_of (line_of code k)) (f.at 0) goes) in
      let out = followed f sound k inside 0 row.some (or_second _ _ lands) in
      let first = first_depth f sound row.some in
      omega (arith, ints)

  enters : (k : ℕ) → k < f.count → (goal : ℕ) → jump_goal (next_of (line_of code k)) ≡ Some goal
      → text.is_entry goal ≡ true → f.depth k ≡ 0
  enters k inside goal goes entry =
      elim (is_within f.own goal) as (λ b. is_within f.own goal ≡ b → f.depth k ≡ 0) [
        | true ↦ (λ own. jumps_first k inside (goes ∙ ap Some (here.entry goal entry own)))
        | false ↦ (λ out. jumps_out k goal inside (jump_is k goal inside goes) out)
      ] refl

  leaves : (k : ℕ) → k < f.count → (goal : ℕ) → jump_goal (next_of (line_of code k)) ≡ Some goal
      → is_within text.range goal ≡ false → f.depth k ≡ 0
  leaves k inside goal goes outside =
      elim (is_within f.own goal) as (λ b. is_within f.own goal ≡ b → f.depth k ≡ 0) [
        | true ↦ (λ own. absurd (cc (here.own goal own, outside)))
        | false ↦ (λ out. jumps_out k goal inside (jump_is k goal inside goes) out)
      ] refl

  pub sound_function : IsSoundFunction (joined text) code
  sound_function = record {
    stands = here.line;
    lines = λ k inside. record {
      part = lines.part_is text code row told machine sound k;
      inside = lines.index_inside text code row told machine sound k;
      acts = lines.acts text code row told machine sound k inside;
      suits = suits text code row told machine sound k inside (role_at f k) refl;
      linked = λ some. lines.linked text code row told machine sound some k;
      unlinked = λ none. lines.unlinked text code row told machine sound none k inside;
      still = λ ends. (machine.still k inside ends, unchanged k inside ends);
      behind = behind k inside;
      jumps = jumps k inside;
      enters = enters k inside;
      leaves = leaves k inside;
      indirect = λ jumps.
          left k inside (or_second (is_return (next_at f k)) _ (or_first _ _
          (ap is_indirect_jump (lines.next_is text code row told machine sound k inside) ∙ jumps)));
      returns = λ returns.
          left k inside (or_first _ _ (ap is_return (lines.next_is text code row told machine sound k inside) ∙ returns));
      served = here.served k inside;
    };
  }

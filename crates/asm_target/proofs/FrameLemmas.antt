-- Code that makes or leaves a frame, by the flow rules.
use Rattle.std.proofs.Common.{◌≡◌, ℕ, zero, suc, List, [], ◌∷◌, ◌+◌, ◌<◌, ◌≤◌, false, Some, None, pos, length, refl, sym, ap, ◌∙◌, subst, arith}
use Rattle.std.proofs.lemmas.Option.{slice_get_within}
use Rattle.std.specs.List.{slice_get}
use Rattle.std.specs.Prelude.{◌+ℤ◌}
use Rattle.machine_effect.specs.declared.effect.Effect.{Effect}
use Rattle.machine_effect.specs.declared.flow.Shape.{Shape}
use Rattle.machine_effect.specs.declared.next.Next.TheVariants as next
use Rattle.machine_effect.specs.Flow.{flow_of}
use Rattle.asm_target.specs.declared.sequence.Sequence.{Sequence}
use Rattle.asm_target.specs.DepthChange.{depth_added, depth_change}
use Rattle.asm_target.specs.FlowFunction.{FlowFunction, next_at, outgoing}
use Rattle.asm_target.specs.FlowRules.{breaks_f2, breaks_f8, greatest_depth, is_other}
use Rattle.asm_target.specs.InstructionSet.{InstructionSet}
use Rattle.asm_target.specs.Standing.{KeepsRules}
use Rattle.asm_target.proofs.CleanLemmas.{falling, unbroken}
use Rattle.asm_target.proofs.PlaceLemmas.{instr_here}

pub same_pos : (m n : ℕ) → pos m ≡ pos n → m ≡ n
same_pos m n same = cc

pub flow_next : (effect : Effect) (shape : Shape) → (flow_of effect shape).next ≡ effect.next
unfolding flow_of
flow_next effect shape = refl

-- without a link register the depth changes as the stack pointer moves
unlinked_out : (f : FlowFunction) (p : ℕ) → f.link ≡ None → next_at f p ≡ next.Fall
    → outgoing f p ≡ pos (f.depth p) +ℤ depth_added (f.flow p).sp
unfolding outgoing depth_change
unlinked_out f p link falls = rw (link, falls) refl

unlinked_f2 : (f : FlowFunction) (p : ℕ) → f.link ≡ None → is_other (f.flow p).sp ≡ false → breaks_f2 f p ≡ false
unlinked_f2 f p link kept = rw link kept

pub unlinked_f8 : (f : FlowFunction) (p : ℕ) → f.link ≡ None → breaks_f8 f p ≡ false
unlinked_f8 f p link = rw link refl

module _ {Instr : Type 0} (set : InstructionSet Instr) (fits : Instr → Type 0) (begins : List Instr → Sequence) (shape : Shape) where
  -- an instruction goes on behind itself, and moves the stack pointer by a constant that takes one depth to another
  pub record IsStep (i : Instr) (before after : ℕ) : Type 0 where
    pub falls : (pc : ℕ) → (set.effect i pc).next ≡ next.Fall
    pub known : (pc : ℕ) → is_other (flow_of (set.effect i pc) shape).sp ≡ false
    pub moved : (pc : ℕ) → pos before +ℤ depth_added (flow_of (set.effect i pc) shape).sp ≡ pos after
    pub most : after ≤ greatest_depth

  -- so do instructions one behind the other
  abbrev pub Walks : List Instr → ℕ → ℕ → Type 0
  Walks [] before after = before ≡ after
  Walks (i ∷ code) before after = (between : ℕ) × IsStep i before between × Walks code between after

  record IsStepAt (code : List Instr) (depth : ℕ → ℕ) (k : ℕ) : Type 0 where
    instr : Instr
    here : slice_get code k ≡ Some instr
    step : IsStep instr (depth k) (depth (suc k))

  record WalksBy (code : List Instr) (after : ℕ) (depth : ℕ → ℕ) : Type 0 where
    step : (k : ℕ) → k < length code → IsStepAt code depth k
    ends : depth (length code) ≡ after

  -- depths that follow from one another are those of the walk
  walked : (code : List Instr) (before after : ℕ) (depth place : ℕ → ℕ) → Walks code before after → depth 0 ≡ before
      → ((k : ℕ) (i : Instr) → slice_get code k ≡ Some i
      → pos (depth (suc k)) ≡ pos (depth k) +ℤ depth_added (flow_of (set.effect i (place k)) shape).sp)
      → WalksBy code after depth
  walked [] before after depth place walks start linear = record { step = λ k less. absurd (omega arith); ends = start ∙ walks }
  walked (i ∷ code) before after depth place walks start linear =
      let first : depth 1 ≡ walks.0 =
      same_pos (depth 1) walks.0
      (linear 0 i refl ∙ ap (λ (d : ℕ). pos d +ℤ depth_added (flow_of (set.effect i (place 0)) shape).sp) start
      ∙ walks.1.moved (place 0)) in
      let rest = walked code walks.0 after (λ k. depth (suc k)) (λ k. place (suc k)) walks.2 first (λ k j is. linear (suc k) j is) in
      record {
        step = elim [
          | zero ↦ (λ less. record {
            instr = i;
            here = refl;
            step = subst (λ (d : ℕ). IsStep i d (depth 1)) (sym start) (subst (λ (d : ℕ). IsStep i before d) (sym first) walks.1);
          })
          | suc k ↦ (λ less.
              let s = rest.step k (omega arith) in
              record { instr = s.instr; here = s.here; step = s.step })
        ];
        ends = rest.ends;
      }

  all_fall : (code : List Instr) (before after : ℕ) → Walks code before after → (k : ℕ) (i : Instr)
      → slice_get code k ≡ Some i → (pc : ℕ) → (set.effect i pc).next ≡ next.Fall
  all_fall [] before after walks k i is = absurd (cc)
  all_fall (j ∷ code) before after walks zero i is =
      (let same : j ≡ i = cc in subst (λ (i : Instr). (pc : ℕ) → (set.effect i pc).next ≡ next.Fall) same walks.1.falls)
  all_fall (j ∷ code) before after walks (suc k) i is = all_fall code walks.0 after walks.2 k i is

  -- without a link register such code breaks no rule
  pub straight : shape.link ≡ None → (code : List Instr) (before after : ℕ) → Walks code before after
      → KeepsRules set fits begins shape code before after
  straight none code before after walks f at stands start entry =
      let link : f.link ≡ None = stands.whole.link ∙ none in
      let flow = λ (k : ℕ) (i : Instr) (is : slice_get code k ≡ Some i).
      stands.whole.flow (at + k) i (instr_here set fits begins shape stands.all code stands.rest at k i stands.here is) in
      let falls = λ (k : ℕ) (i : Instr) (is : slice_get code k ≡ Some i).
      let place : ℕ = f.at (at + k) in
      ap (λ flow. flow.next) (flow k i is) ∙ flow_next (set.effect i place) shape ∙ all_fall code before after walks k i is place in
      let here : at + 0 ≡ at = omega arith in
      let by = walked code before after (λ k. f.depth (at + k)) (λ k. f.at (at + k)) walks (ap f.depth here ∙ start)
      (λ k i is.
      stands.linear k (slice_get_within code k i is) ∙ unlinked_out f (at + k) link (falls k i is)
      ∙ ap (λ flow. pos (f.depth (at + k)) +ℤ depth_added flow.sp) (flow k i is)) in
      record {
        clean = λ k rule less few.
            let s = by.step k less in
            let next : suc (at + k) ≡ at + suc k = omega arith in
            let kept = ap (λ flow. is_other flow.sp) (flow k s.instr s.here) ∙ s.step.known (f.at (at + k)) in
            unbroken f (at + k) (falling f (at + k) (f.depth (at + suc k)) (record {
              falls = falls k s.instr s.here;
              out = sym (stands.linear k less);
              behind = ap f.depth next;
              inside = omega (arith, stands.goes_on);
              most = s.step.most;
              entry = λ first.
                  let zero_at : at ≡ 0 = omega arith in
                  let zero_k : at + k ≡ at = omega arith in
                  ap f.depth zero_k ∙ start ∙ entry zero_at;
              f2 = unlinked_f2 f (at + k) link kept;
              f8 = unlinked_f8 f (at + k) link;
            })) rule;
        ends = by.ends;
      }

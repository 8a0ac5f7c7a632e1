-- A call that is no call of a routine that grows the stack.
use Rattle.std.proofs.Common.{◌≡◌, ℕ, ◌<◌, ◌&&◌, Bool, true, false, not, Some, refl, subst, inl, inr}
use Rattle.asm_target.specs.declared.sequence.Sequence.{Sequence}
use Rattle.asm_target.specs.DepthChange.{is_call}
use Rattle.asm_target.specs.FlowFunction.{is_within}
use Rattle.image_model.specs.Image.{Image, Line, has_link, is_growth_call, is_served, next_of}
use Rattle.image_model.specs.Soundness.{IsPlainLine, IsSound, IsSoundLine, SuitsRole}
use Rattle.image_runs.proofs.CallLemmas.{call_not_fall, call_passes}
use Rattle.image_runs.proofs.GoingLemmas.{ends_alone, growth_last}

served_parts : (call growth : Bool) → (call && not growth) ≡ true → (call ≡ true) × (growth ≡ false)
served_parts true false is = (refl, refl)
served_parts true true is = absurd (cc)
served_parts false growth is = absurd (cc)

module _ (img : Image) (sound : IsSound img) (at : ℕ) (line : Line) (here : img.line_at at ≡ Some line)
    (served : is_served img.is_growth_routine (next_of line) ≡ true) where
  parts : (is_call (next_of line) ≡ true) × (is_growth_call img.is_growth_routine (next_of line) ≡ false)
  parts = served_parts (is_call (next_of line)) (is_growth_call img.is_growth_routine (next_of line)) served

  -- with a link register it stands at a depth above 0
  pub served_deep : has_link img ≡ true → 0 < line.depth
  served_deep some =
      let is : IsSoundLine img at line = sound.lines at line here in
      elim (ends_alone img at line is (call_not_fall (next_of line) parts.0)) as (λ _. 0 < line.depth) [
        | inl plain ↦
            (let fit : IsPlainLine img line = subst (λ (role : Sequence). SuitsRole img role line) plain is.suits some in
            (fit.calls parts.0).0)
        | inr last ↦ absurd (cc (growth_last img at line is last.0 last.1 last.2, parts.1))
      ]

  -- it ends in the text
  pub served_within : is_within img.text line.part.past ≡ true
  served_within =
      let behind = (sound.lines at line here).behind (call_passes (next_of line) parts.0) in
      sound.inside line.part.past behind.0 behind.1

  pub served_found : img.after_call line.part.past ≡ Some at
  served_found = (sound.lines at line here).served served

-- Values that are spread one after the other.
use Rattle.std.proofs.Common.{◌≡◌, ℕ, suc, ℤ, ◌+◌, ◌<◌, List, [], ◌∷◌, ◌++◌, length, drop, get_or, Option, Some, None, refl, sym, ap, ◌∙◌, append_assoc, add-one}
use Rattle.std.proofs.Math.Seq.{drop-cons}
use Rattle.std.specs.Option.{option_map}
use Rattle.pcvalue.specs.declared.step.Cursor.{Cursor}
use Rattle.pcvalue.specs.declared.step.Step.{Step}
use Rattle.pcvalue.specs.declared.step.Step.TheVariants as steps
use Rattle.pcvalue.specs.Runs.{Reading, Another, Point}
use Rattle.pcvalue.specs.Steps.{reading_of}
use Rattle.pcvalue.specs.Spread.{spread, behind_stretch}

pub spread_none : (o : Option (List ℤ)) → option_map (λ more. [] ++ more) o ≡ o
spread_none None = refl
spread_none (Some values) = refl

pushed : (items : List ℤ) (value : ℤ) (o : Option (List ℤ))
    → option_map (λ more. items ++ more) (option_map (λ values. value ∷ values) o) ≡ option_map (λ more. (items ++ value ∷ []) ++ more) o
pushed items value None = refl
pushed items value (Some values) = ap Some (sym (append_assoc items (value ∷ []) values))

pub spread_next : (quantum index d : ℕ) (ends : List ℕ) (point : Point) (reading : Reading) (items more : List ℤ) (whole : Option (List ℤ))
    → index < length ends
    → option_map (λ more. items ++ more) (spread quantum (Another point) (drop index ends)) ≡ whole
    → more ≡ items ++ point.run.value ∷ [] → reading ≡ behind_stretch quantum point (get_or ends index d)
    → option_map (λ others. more ++ others) (spread quantum reading (drop (index + 1) ends)) ≡ whole
unfolding spread
spread_next quantum index d ends point reading items more whole inside before more_is reading_is =
    let split : option_map (λ more. items ++ more) (spread quantum (Another point) (get_or ends index d ∷ drop (suc index) ends)) ≡ whole
    = rw (drop-cons ends index d) at before in
    rw (more_is, reading_is) (rw add-one
    (sym (pushed items point.run.value (spread quantum (behind_stretch quantum point (get_or ends index d)) (drop (suc index) ends))) ∙ split))

-- where no run stands there, a further stretch has no value
pub stopped : (quantum index d : ℕ) (ends : List ℕ) (step : Step) (items : List ℤ) (whole : Option (List ℤ))
    → index < length ends → ((cursor : Cursor) → step ≡ steps.Another cursor → ⊥)
    → option_map (λ more. items ++ more) (spread quantum (reading_of step) (drop index ends)) ≡ whole
    → None ≡ whole
unfolding spread
stopped quantum index d ends (steps.Another cursor) items whole inside never is = absurd (never cursor refl)
stopped quantum index d ends steps.Finished items whole inside never is = rw (drop-cons ends index d) at is
stopped quantum index d ends steps.Fault items whole inside never is = is

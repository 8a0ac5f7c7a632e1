-- Where things stand that are placed within so many bytes.
use Rattle.std.proofs.Common.{◌≡◌, ℕ, ◌+◌, ◌^◌, ◌<◌, ◌≤◌, inr, List, [], ◌∷◌, length, Option, Some, None, Ok, Err, ap, ◌∙◌, sym, subst, arith}
use Rattle.std.specs.Prelude.{All, Result, IfOk, IfSome, IfNone}
use Rattle.std.proofs.lemmas.List.Elements.{All-nil, All-cons}
use Rattle.byte_layout.specs.Joined.{aligned}
use Rattle.byte_layout.proofs.JoinedLemmas.{aligned-le}
use Rattle.link_places.specs.declared.places.Places.{Places}
use Rattle.link_places.specs.Places.{places_from, end_from}
use Rattle.link_places.proofs.PlaceLemmas.{end_from-le, length-places}
use Rattle.link_functions.specs.declared.code.UnitCode.{UnitCode}
use Rattle.link_plan.specs.Sizes.{code_sizes}
use Rattle.link_plan.specs.Plan.{IsPlaced, HasTooMuchCode}

-- no place is behind the end
places_near : (end most : ℕ) (sizes : List ℕ) → end_from end sizes ≤ most → All (λ place. place ≤ most) (places_from end sizes)
unfolding places_from end_from
places_near end most [] ends = All-nil (λ place. place ≤ most)
places_near end most (size ∷ sizes) ends =
    All-cons (λ place. place ≤ most) (aligned 16 end) (places_from (aligned 16 end + size) sizes)
    (omega (arith, ends, end_from-le (aligned 16 end + size) sizes))
    (places_near (aligned 16 end + size) most sizes ends)

module _ (sizes : List ℕ) (places : Places) (placed : IsPlaced sizes places) where
  pub all_near : All (λ place. place ≤ 2 ^ 24) places.at
  all_near =
      let ends : end_from 0 sizes ≤ 2 ^ 24 = subst (λ end. end ≤ 2 ^ 24) placed.end placed.small in
      subst (All (λ place. place ≤ 2 ^ 24)) (sym placed.at) (places_near 0 (2 ^ 24) sizes ends)

  pub one_each : length places.at ≡ length sizes
  one_each = ap length placed.at ∙ length-places 0 sizes

-- few sizes have few places
pub few_places : {E : Type 0} (sizes : List ℕ) (found : Result (Option Places) E) → length sizes ≤ 65536
    → IfOk found (λ found. IfSome found (λ places. places.at ≡ places_from 0 sizes)) → IfOk found (λ found. IfSome found (λ places. length places.at ≤ 65536))
few_places sizes (Err e) few placed = tt
few_places sizes (Ok None) few placed = tt
few_places sizes (Ok (Some places)) few placed = omega (arith, ap length placed ∙ length-places 0 sizes, few)

-- where functions have no places, they are too long
pub text_too_long : {E Instr : Type 0} (code : List (UnitCode Instr)) (sizes : List ℕ) (found : Result (Option Places) E) → sizes ≡ code_sizes code
    → IfOk found (λ found. IfNone found (2 ^ 24 < end_from 0 sizes)) → IfOk found (λ found. IfNone found (HasTooMuchCode code))
text_too_long code sizes (Err e) are far = tt
text_too_long code sizes (Ok (Some places)) are far = tt
text_too_long code sizes (Ok None) are far =
    let long : 2 ^ 24 < end_from 0 (code_sizes code) = subst (λ sizes. 2 ^ 24 < end_from 0 sizes) are far in
    inr (omega (arith, long, aligned-le 16 (end_from 0 (code_sizes code))))

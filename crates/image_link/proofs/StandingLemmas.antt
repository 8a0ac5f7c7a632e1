-- Where the functions of an image stand.
use Rattle.std.proofs.Common.{◌≡◌, ℕ, ◌≤◌, ◌<◌, ◌^◌, inl, inr, List, length, get_or, Option, sym, ap, ◌∙◌, subst, arith}
use Rattle.std.specs.Prelude.{All}
use Rattle.std.specs.List.{AllZip}
use Rattle.std.specs.List.Sorted.{IsNonDecreasing}
use Rattle.std.proofs.lemmas.Bool.{cases_lt}
use Rattle.std.proofs.lemmas.Grind.{get_or_default_zero}
use Rattle.byte_layout.specs.Joined.{aligned}
use Rattle.link_build.specs.declared.build.Build.{Build}
use Rattle.link_build.specs.declared.link_no.LinkNo.{LinkNo}
use Rattle.link_build.specs.Functions.{Seen, functions_in}
use Rattle.link_code.specs.declared.placing.Code.{Code}
use Rattle.link_flow.specs.declared.around.Around.{Around}
use Rattle.link_flow.specs.Around.{IsAround}
use Rattle.link_flow.specs.Codes.{AreCodes, AreCodesSomewhere}
use Rattle.link_flow.specs.Refusals.{IsUnplaced}
use Rattle.link_functions.specs.declared.code.UnitCode.{UnitCode}
use Rattle.link_names.specs.Definitions.{Entry}
use Rattle.link_parts.specs.declared.fitting.Fitted.{Fitted}
use Rattle.link_parts.specs.Image.{function_places}
use Rattle.link_parts.proofs.ListableLemmas.{functions_count}
use Rattle.link_places.specs.Places.{end_from, places_from}
use Rattle.link_places.proofs.PlaceLemmas.{length-places, place_behind}
use Rattle.link_plan.proofs.PlacedLemmas.{all_near, one_each}
use Rattle.link_plan.specs.Plan.{text_size}
use Rattle.link_plan.specs.Sizes.{code_sizes}
use Rattle.link_text.specs.Text.{HasSize, image_text}
use Rattle.unit_listing.specs.Kit.{Kit}
use Rattle.image_link.specs.Linked.{IsFit, IsPlaced}
use Rattle.image_link.specs.Refusals.{IsFirstRefusal}
use Rattle.image_link.proofs.CodeLemmas.{have_sizes}
use Rattle.image_link.proofs.RefusalLemmas.{unplaced}

-- places that were planned one behind the other rise
places_ordered : (sizes : List ℕ) → IsNonDecreasing (places_from 0 sizes)
places_ordered sizes i j d before within =
    let inside : j < length sizes = omega (arith, within, length-places 0 sizes) in
    elim (cases_lt i j) as (λ _. get_or (places_from 0 sizes) i d ≤ get_or (places_from 0 sizes) j d) [
      | inl less ↦
          omega (
            arith,
            place_behind 0 i j sizes less inside,
            get_or_default_zero (places_from 0 sizes) i d (omega (arith, less, within)),
            get_or_default_zero (places_from 0 sizes) j d within,
          )
      | inr same ↦
          (let is : i ≡ j = omega (arith, same, before) in
          subst (λ (n : ℕ). get_or (places_from 0 sizes) i d ≤ get_or (places_from 0 sizes) n d) is (omega arith))
    ]

-- a multiple of 16 that isn't passed isn't passed by the next one either
aligned_small : (end : ℕ) → end ≤ 2 ^ 24 → aligned 16 end ≤ 2 ^ 24
unfolding aligned
aligned_small end small = omega (arith, small)

module _ {Instr : Type 0} (kit : Kit Instr) (build : Build) (names : List Entry) (code : List (UnitCode Instr)) (fitted : Fitted)
    (fit : IsFit kit build names code fitted) where
  pub near : All (λ place. place ≤ 2 ^ 24) fitted.plan.functions.at
  near = all_near (code_sizes code) fitted.plan.functions fit.fits.plan.functions

  pub as_many : (funcs : List (Seen Instr)) → funcs ≡ functions_in code → length fitted.plan.functions.at ≡ length funcs
  as_many funcs are =
      one_each (code_sizes code) fitted.plan.functions fit.fits.plan.functions ∙ sym (functions_count code) ∙ ap length (sym are)

  -- the place of a function
  module _ (funcs : List (Seen Instr)) (funcs_are : funcs ≡ functions_in code) (places : List ℕ) (places_are : places ≡ fitted.plan.functions.at)
      (number : ℕ) (within : number < length funcs) where
    pub place_there : number < length places
    place_there = omega (arith, within, ap length places_are, as_many funcs funcs_are)

    pub near_first : get_or places number 0 ≤ 2 ^ 24
    near_first = subst (All (λ place. place ≤ 2 ^ 24)) (sym places_are) near number 0 place_there

  pub ordered : IsNonDecreasing fitted.plan.functions.at
  ordered = subst IsNonDecreasing (sym fit.fits.plan.functions.at) (places_ordered (code_sizes code))

  short : text_size code ≤ 2 ^ 24
  short =
      let functions = fit.fits.plan.functions in
      aligned_small (end_from 0 (code_sizes code)) (subst (λ end. end ≤ 2 ^ 24) functions.end functions.small)

  module _ (funcs : List (Seen Instr)) (funcs_are : funcs ≡ functions_in code) (at : List ℕ) (at_is : at ≡ fitted.plan.functions.at) where
    places_are : at ≡ function_places code
    places_are = at_is ∙ fit.fits.plan.functions.at

    pub not_placed : (told : LinkNo) → IsUnplaced kit names fitted.addresses funcs at told → IsFirstRefusal kit build told
    not_placed told is =
        unplaced kit build names code fitted told fit
        (subst (λ (places : List ℕ). IsUnplaced kit names fitted.addresses (functions_in code) places told) places_are
        (subst (λ (all : List (Seen Instr)). IsUnplaced kit names fitted.addresses all at told) funcs_are is))

    module _ (codes : List (Code Instr)) (are : AreCodes names fitted.addresses kit funcs at codes) where
      own_codes : AreCodes names fitted.addresses kit (functions_in code) (function_places code) codes
      own_codes =
          subst (λ (places : List ℕ). AreCodes names fitted.addresses kit (functions_in code) places codes) places_are
          (subst (λ (all : List (Seen Instr)). AreCodes names fitted.addresses kit all at codes) funcs_are are)

      module _ (growth : Option ℕ) (read : List (Code Instr)) (read_is : read ≡ codes) (text : List ℕ)
          (text_is : text ≡ image_text kit growth read)
          (ends : (sizes : List ℕ) (codes : List (Code Instr)) → AllZip (HasSize kit) sizes codes
          → aligned 16 (end_from 0 sizes) ≡ length (image_text kit growth codes)) where
        pub text_long : length text ≡ text_size code
        text_long =
            ap length text_is ∙ ap (λ (codes : List (Code Instr)). length (image_text kit growth codes)) read_is
            ∙ sym (ends (code_sizes code) codes (have_sizes kit names fitted.addresses code codes own_codes))

        pub text_short : length text ≤ 2 ^ 24
        text_short = omega (arith, text_long, short)

        pub is_placed : (around : Around) (len : ℕ) (outside : List (List ℕ × ℕ)) → len ≡ length text → outside ≡ build.outside
            → IsAround at len outside around → IsPlaced kit build names code fitted codes around
        is_placed around len outside len_is outside_is is =
            record {
              fit = fit;
              codes_are = own_codes;
              around_is = subst (λ (names : List (List ℕ × ℕ)). IsAround (function_places code) (text_size code) names around) outside_is
                  (subst (λ (size : ℕ). IsAround (function_places code) size outside around) (len_is ∙ text_long)
                  (subst (λ (places : List ℕ). IsAround places len outside around) places_are is));
            }

  -- what is known where functions are judged
  pub somewhere : (funcs : List (Seen Instr)) → funcs ≡ functions_in code → (codes : List (Code Instr)) (around : Around)
      → IsPlaced kit build names code fitted codes around → AreCodesSomewhere kit funcs codes
  somewhere funcs are codes around placed = (
    names,
    fitted.addresses,
    function_places code,
    subst (λ (all : List (Seen Instr)). AreCodes names fitted.addresses kit all (function_places code) codes) (sym are) placed.codes_are,
  )

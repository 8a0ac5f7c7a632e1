-- A build has one image, or one refusal.
use Rattle.std.proofs.Common.{◌≡◌, ◌⊎◌, ◌+◌, ℕ, List, Option, refl, sym, ap, ◌∙◌, subst}
use Rattle.std.specs.Prelude.{All, slice_index}
use Rattle.std.specs.List.{AllZip}
use Rattle.goasm_base.specs.declared.pos.Pos.{Pos}
use Rattle.flow_rules.specs.declared.flow_no.FlowNo.{FlowNo}
use Rattle.elf_image.specs.declared.parts.SymbolPart.{SymbolPart}
use Rattle.elf_image.specs.Written.{image_bytes}
use Rattle.unit_listing.specs.Kit.{Kit}
use Rattle.link_names.specs.Definitions.{Entry, MeansAs}
use Rattle.link_functions.specs.declared.code.UnitCode.{UnitCode}
use Rattle.link_places.specs.Addresses.{TellsAs}
use Rattle.link_plan.specs.Addresses.{text_address}
use Rattle.link_plan.specs.Plan.{PassesLimit, text_size}
use Rattle.link_values.specs.Values.{value_bytes}
use Rattle.link_code.specs.declared.placing.Code.{Code}
use Rattle.link_build.specs.declared.build.Build.{Build}
use Rattle.link_build.specs.declared.link_no.LinkNo.{LinkNo}
use Rattle.link_build.specs.declared.link_no.LinkNo.TheVariants as cause
use Rattle.link_build.specs.Functions.{IsSound, functions_in}
use Rattle.link_build.specs.Refusals.{IsUnresolved}
use Rattle.link_build.specs.Resolved.{IsResolved}
use Rattle.link_parts.specs.declared.fitting.Fitted.{Fitted}
use Rattle.link_parts.specs.Fitted.{IsFitted, IsTooLong}
use Rattle.link_parts.specs.Image.{function_places}
use Rattle.link_text.specs.Text.{image_text}
use Rattle.link_flow.specs.declared.around.Around.{Around}
use Rattle.link_flow.specs.Around.{IsAround}
use Rattle.link_flow.specs.Codes.{AreCodes}
use Rattle.link_flow.specs.Refusals.{IsUnplaced, KeepsGoals, KeepsRules}
use Rattle.image_link.specs.Linked.{IsFit, IsLinked, IsPlaced}
use Rattle.image_link.specs.Refusals.{BreaksRules, GoesAstray, IsBeyondLimits, IsFirstRefusal, IsOutOfReach}
use Rattle.build_answer.specs.Same.{IsSameCode}
use Rattle.link_answer.proofs.AroundLemmas.{IsSameAround, same_around}
use Rattle.link_answer.proofs.CodesLemmas.{AreSame, CodeLaws, IsAlike, codes_alike, not_unplaced, one_unplaced, same_text}
use Rattle.link_answer.proofs.EntryLemmas.{one_entry}
use Rattle.link_answer.proofs.FirstLemmas.{first_astray, first_breach, not_astray, not_breach}
use Rattle.link_answer.proofs.SameLemmas.{same_seen}

-- what is known of the names and the functions of a build
pub record BuildLaws {Instr : Type 0} (kit : Kit Instr) (build : Build) : Type 0 where
  pub names : (names others : List Entry) (code again : List (UnitCode Instr)) → IsResolved kit build names code
      → IsResolved kit build others again → MeansAs names others
  pub code : (names others : List Entry) (code again : List (UnitCode Instr)) → IsResolved kit build names code
      → IsResolved kit build others again → IsSameCode code again
  pub never : (names : List Entry) (code : List (UnitCode Instr)) (refusal : LinkNo) → IsResolved kit build names code
      → ¬ IsUnresolved kit build refusal
  pub first : (refusal other : LinkNo) → IsUnresolved kit build refusal → IsUnresolved kit build other → refusal ≡ other
  pub sound : (names : List Entry) (code : List (UnitCode Instr)) → IsResolved kit build names code
      → All (IsSound kit build) (functions_in code)

-- what is known of what an image has beside its code
pub record FitLaws {Instr : Type 0} (kit : Kit Instr) (build : Build) : Type 0 where
  pub places : (code again : List (UnitCode Instr)) → IsSameCode code again → function_places code ≡ function_places again
  pub size : (code again : List (UnitCode Instr)) → IsSameCode code again → text_size code ≡ text_size again
  pub table : (names others : List Entry) (code again : List (UnitCode Instr)) (fitted other : Fitted) → MeansAs names others
      → IsSameCode code again → IsFitted kit.quantum build names code fitted → IsFitted kit.quantum build others again other
      → fitted.table ≡ other.table
  pub symbols : (names others : List Entry) (code again : List (UnitCode Instr)) (fitted other : Fitted) → MeansAs names others
      → IsSameCode code again → IsFitted kit.quantum build names code fitted → IsFitted kit.quantum build others again other
      → fitted.symbols ≡ other.symbols
  pub addresses : (names others : List Entry) (code again : List (UnitCode Instr)) (fitted other : Fitted) → MeansAs names others
      → IsSameCode code again → IsFitted kit.quantum build names code fitted → IsFitted kit.quantum build others again other
      → TellsAs fitted.addresses other.addresses
  pub values : (names others : List Entry) (fitted other : Fitted) → MeansAs names others → TellsAs fitted.addresses other.addresses
      → value_bytes names build.units fitted.addresses ≡ value_bytes others build.units other.addresses
  pub never : (names others : List Entry) (code again : List (UnitCode Instr)) (fitted : Fitted) → MeansAs names others
      → IsSameCode code again → IsFitted kit.quantum build names code fitted
      → ¬ (PassesLimit others build.units again ⊎ IsTooLong kit.quantum build others again)

module _ {Instr : Type 0} (kit : Kit Instr) (build : Build) (code_laws : CodeLaws kit) (build_laws : BuildLaws kit build)
    (fit_laws : FitLaws kit build) where
  module _ (names others : List Entry) (code again : List (UnitCode Instr)) where
    -- by two answers up to what an image has beside its code
    functions_same : (fitted other : Fitted) → IsFit kit build names code fitted → IsFit kit build others again other
        → AreSame names others fitted.addresses other.addresses (functions_in code) (functions_in again)
    functions_same fitted other one two =
        let alike = build_laws.names names others code again one.resolved two.resolved in
        let same = build_laws.code names others code again one.resolved two.resolved in
        record {
          alike = alike;
          tells = fit_laws.addresses names others code again fitted other alike same one.fits two.fits;
          funcs_are = same_seen code again same;
        }

    places_same : IsResolved kit build names code → IsResolved kit build others again → function_places code ≡ function_places again
    places_same one two = fit_laws.places code again (build_laws.code names others code again one two)

    not_beyond : (fitted : Fitted) → IsFit kit build names code fitted → IsResolved kit build others again
        → (PassesLimit others build.units again ⊎ IsTooLong kit.quantum build others again) → ⊥
    not_beyond fitted fit two beyond =
        fit_laws.never names others code again fitted (build_laws.names names others code again fit.resolved two)
        (build_laws.code names others code again fit.resolved two) fit.fits beyond

    around_same : (one other : Around) → IsResolved kit build names code → IsResolved kit build others again
        → IsAround (function_places code) (text_size code) build.outside one
        → IsAround (function_places again) (text_size again) build.outside other → IsSameAround one other
    around_same one other first second is that =
        let same = build_laws.code names others code again first second in
        same_around (function_places again) (text_size again) build.outside one other
        (subst (λ (long : ℕ). IsAround (function_places again) long build.outside one) (fit_laws.size code again same)
        (subst (λ (at : List ℕ). IsAround at (text_size code) build.outside one) (fit_laws.places code again same) is))
        that

    placed_alike : (fitted other : Fitted) (codes its : List (Code Instr)) (around beside : Around)
        → IsPlaced kit build names code fitted codes around → IsPlaced kit build others again other its beside → AllZip IsAlike codes its
    placed_alike fitted other codes its around beside one two =
        let at = places_same one.fit.resolved two.fit.resolved in
        codes_alike kit code_laws names others fitted.addresses other.addresses (functions_in code) (functions_in again)
        (functions_same fitted other one.fit two.fit) (function_places again) codes its
        (subst (λ (at : List ℕ). AreCodes names fitted.addresses kit (functions_in code) at codes) at one.codes_are)
        two.codes_are

    -- where each function has instructions, none is too far from what it refers to
    not_out : (name : List ℕ) (fitted other : Fitted) (codes : List (Code Instr)) (around : Around)
        → IsPlaced kit build names code fitted codes around → IsFit kit build others again other
        → IsUnplaced kit others other.addresses (functions_in again) (function_places again) (cause.N3 name) → ⊥
    not_out name fitted other codes around one two bad =
        let at = places_same one.fit.resolved two.resolved in
        not_unplaced kit code_laws names others fitted.addresses other.addresses (functions_in code) (functions_in again)
        (functions_same fitted other one.fit two) (function_places again) name codes
        (subst (λ (at : List ℕ). AreCodes names fitted.addresses kit (functions_in code) at codes) at one.codes_are)
        bad

  -- Each of the later causes

  not_far : (names : List Entry) (code : List (UnitCode Instr)) (fitted : Fitted) (codes : List (Code Instr)) (around : Around) (name : List ℕ)
      → IsPlaced kit build names code fitted codes around → IsOutOfReach kit build (cause.N3 name) → ⊥
  not_far names code fitted codes around name placed bad =
      not_out names bad.names code bad.code name fitted bad.fitted codes around placed bad.fit bad.unplaced

  no_astray : (names : List Entry) (code : List (UnitCode Instr)) (fitted : Fitted) (codes : List (Code Instr)) (around : Around)
      (name : List ℕ) → IsPlaced kit build names code fitted codes around → All (KeepsGoals kit around) codes
      → GoesAstray kit build (cause.N7 name) → ⊥
  no_astray names code fitted codes around name placed goals bad =
      let first = bad.placed.fit.resolved in
      let second = placed.fit.resolved in
      not_astray kit code_laws bad.around around
      (around_same bad.names names bad.code code bad.around around first second bad.placed.around_is placed.around_is)
      (around_same names bad.names code bad.code around bad.around second first placed.around_is bad.placed.around_is)
      (functions_in bad.code) (functions_in code)
      (functions_same bad.names names bad.code code bad.fitted fitted bad.placed.fit placed.fit).funcs_are bad.codes codes
      (placed_alike bad.names names bad.code code bad.fitted fitted bad.codes codes bad.around around bad.placed placed)
      (placed_alike names bad.names code bad.code fitted bad.fitted codes bad.codes around bad.around placed bad.placed)
      name bad.first goals

  no_breach : (names : List Entry) (code : List (UnitCode Instr)) (fitted : Fitted) (codes : List (Code Instr)) (around : Around)
      (pos : Pos) (refusal : FlowNo) → IsPlaced kit build names code fitted codes around → All (KeepsRules kit around) codes
      → BreaksRules kit build (cause.Flow pos refusal) → ⊥
  no_breach names code fitted codes around pos refusal placed rules bad =
      let first = bad.placed.fit.resolved in
      let second = placed.fit.resolved in
      not_breach kit code_laws bad.around around
      (around_same bad.names names bad.code code bad.around around first second bad.placed.around_is placed.around_is)
      (around_same names bad.names code bad.code around bad.around second first placed.around_is bad.placed.around_is)
      (functions_in bad.code) (functions_in code)
      (functions_same bad.names names bad.code code bad.fitted fitted bad.placed.fit placed.fit).funcs_are bad.codes codes
      (placed_alike bad.names names bad.code code bad.fitted fitted bad.codes codes bad.around around bad.placed placed)
      (placed_alike names bad.names code bad.code fitted bad.fitted codes bad.codes around bad.around placed bad.placed)
      pos refusal bad.first rules

  same_far : (name called : List ℕ) → IsOutOfReach kit build (cause.N3 name) → IsOutOfReach kit build (cause.N3 called) → name ≡ called
  same_far name called one two =
      let at = places_same one.names two.names one.code two.code one.fit.resolved two.fit.resolved in
      one_unplaced kit code_laws build one.names two.names one.fitted.addresses two.fitted.addresses (functions_in one.code)
      (functions_in two.code)
      (functions_same one.names two.names one.code two.code one.fitted two.fitted one.fit two.fit)
      (functions_same two.names one.names two.code one.code two.fitted one.fitted two.fit one.fit) (function_places two.code)
      (build_laws.sound one.names one.code one.fit.resolved) name called
      (subst (λ (at : List ℕ). IsUnplaced kit one.names one.fitted.addresses (functions_in one.code) at (cause.N3 name)) at one.unplaced)
      two.unplaced

  same_astray : (name called : List ℕ) → GoesAstray kit build (cause.N7 name) → GoesAstray kit build (cause.N7 called) → name ≡ called
  same_astray name called one two =
      let first = one.placed.fit.resolved in
      let second = two.placed.fit.resolved in
      first_astray kit code_laws one.around two.around
      (around_same one.names two.names one.code two.code one.around two.around first second one.placed.around_is two.placed.around_is)
      (around_same two.names one.names two.code one.code two.around one.around second first two.placed.around_is one.placed.around_is)
      (functions_in one.code) (functions_in two.code)
      (functions_same one.names two.names one.code two.code one.fitted two.fitted one.placed.fit two.placed.fit).funcs_are one.codes two.codes
      (placed_alike one.names two.names one.code two.code one.fitted two.fitted one.codes two.codes one.around two.around one.placed two.placed)
      (placed_alike two.names one.names two.code one.code two.fitted one.fitted two.codes one.codes two.around one.around two.placed one.placed)
      name called one.first two.first

  same_breach : (pos place : Pos) (refusal wide : FlowNo) → BreaksRules kit build (cause.Flow pos refusal)
      → BreaksRules kit build (cause.Flow place wide) → cause.Flow pos refusal ≡ cause.Flow place wide
  same_breach pos place refusal wide one two =
      let first = one.placed.fit.resolved in
      let second = two.placed.fit.resolved in
      first_breach kit code_laws one.around two.around
      (around_same one.names two.names one.code two.code one.around two.around first second one.placed.around_is two.placed.around_is)
      (around_same two.names one.names two.code one.code two.around one.around second first two.placed.around_is one.placed.around_is)
      (functions_in one.code) (functions_in two.code)
      (functions_same one.names two.names one.code two.code one.fitted two.fitted one.placed.fit two.placed.fit).funcs_are one.codes two.codes
      (placed_alike one.names two.names one.code two.code one.fitted two.fitted one.codes two.codes one.around two.around one.placed two.placed)
      (placed_alike two.names one.names two.code one.code two.fitted one.fitted two.codes one.codes two.around one.around two.placed one.placed)
      one.names one.fitted.addresses (function_places one.code) one.placed.codes_are pos place refusal wide one.first two.first

  -- The image

  abbrev image_of : ℕ → List ℕ → List ℕ → List ℕ → List SymbolPart → List ℕ
  image_of entry text table values symbols =
      image_bytes (record { machine = kit.machine; entry = entry; text = text; table = table; values = values; symbols = symbols })

  pub one_image : (growth : Option ℕ) (bytes other : List ℕ) → IsLinked kit build growth bytes → IsLinked kit build growth other
      → bytes ≡ other
  one_image growth bytes other one two =
      let a = one.kept.placed in
      let b = two.kept.placed in
      let alike = build_laws.names one.names two.names one.code two.code a.fit.resolved b.fit.resolved in
      let same = build_laws.code one.names two.names one.code two.code a.fit.resolved b.fit.resolved in
      let entry = one_entry kit one.names two.names build.units one.code two.code alike a.fit.resolved.laid.laid same build.entry
      one.written.entry two.written.entry one.written.entry_is two.written.entry_is in
      let text = same_text kit growth one.codes two.codes
      (placed_alike one.names two.names one.code two.code one.fitted two.fitted one.codes two.codes one.around two.around a b) in
      let table = fit_laws.table one.names two.names one.code two.code one.fitted two.fitted alike same a.fit.fits b.fit.fits in
      let symbols = fit_laws.symbols one.names two.names one.code two.code one.fitted two.fitted alike same a.fit.fits b.fit.fits in
      let tells = fit_laws.addresses one.names two.names one.code two.code one.fitted two.fitted alike same a.fit.fits b.fit.fits in
      let values = fit_laws.values one.names two.names one.fitted two.fitted alike tells in
      let places = fit_laws.places one.code two.code same in
      one.written.whole
      ∙ ap (λ (at : List ℕ). image_of (text_address + slice_index at one.written.entry) (image_text kit growth one.codes) one.fitted.table
      (value_bytes one.names build.units one.fitted.addresses) one.fitted.symbols) places
      ∙ ap (λ (index : ℕ). image_of (text_address + slice_index (function_places two.code) index) (image_text kit growth one.codes)
      one.fitted.table (value_bytes one.names build.units one.fitted.addresses) one.fitted.symbols) entry
      ∙ ap (λ (text : List ℕ). image_of (text_address + slice_index (function_places two.code) two.written.entry) text
      one.fitted.table (value_bytes one.names build.units one.fitted.addresses) one.fitted.symbols) text
      ∙ ap (λ (table : List ℕ). image_of (text_address + slice_index (function_places two.code) two.written.entry)
      (image_text kit growth two.codes) table (value_bytes one.names build.units one.fitted.addresses) one.fitted.symbols) table
      ∙ ap (λ (values : List ℕ). image_of (text_address + slice_index (function_places two.code) two.written.entry)
      (image_text kit growth two.codes) two.fitted.table values one.fitted.symbols) values
      ∙ ap (λ (symbols : List SymbolPart). image_of (text_address + slice_index (function_places two.code) two.written.entry)
      (image_text kit growth two.codes) two.fitted.table (value_bytes two.names build.units two.fitted.addresses) symbols) symbols
      ∙ sym two.written.whole

  -- a build that has an image isn't refused
  pub not_refused : (growth : Option ℕ) (bytes : List ℕ) (refusal : LinkNo) → IsLinked kit build growth bytes
      → IsFirstRefusal kit build refusal → ⊥
  not_refused growth bytes cause.N5 one bad =
      not_beyond one.names bad.names one.code bad.code one.fitted one.kept.placed.fit bad.resolved bad.beyond
  not_refused growth bytes (cause.N3 name) one bad =
      not_far one.names one.code one.fitted one.codes one.around name one.kept.placed bad
  not_refused growth bytes (cause.N7 name) one bad =
      no_astray one.names one.code one.fitted one.codes one.around name one.kept.placed one.kept.goals bad
  not_refused growth bytes (cause.Flow pos refusal) one bad =
      no_breach one.names one.code one.fitted one.codes one.around pos refusal one.kept.placed one.kept.flow bad
  not_refused growth bytes refusal one bad = build_laws.never one.names one.code refusal one.kept.placed.fit.resolved bad

  -- What else a build is refused for that is refused for one cause

  with_limits : IsBeyondLimits kit build → (other : LinkNo) → IsFirstRefusal kit build other → cause.N5 ≡ other
  with_limits one cause.N5 two = refl
  with_limits one (cause.N3 name) two = absurd (not_beyond two.names one.names two.code one.code two.fitted two.fit one.resolved one.beyond)
  with_limits one (cause.N7 name) two =
      absurd (not_beyond two.names one.names two.code one.code two.fitted two.placed.fit one.resolved one.beyond)
  with_limits one (cause.Flow pos refusal) two =
      absurd (not_beyond two.names one.names two.code one.code two.fitted two.placed.fit one.resolved one.beyond)
  with_limits one other two = absurd (build_laws.never one.names one.code other one.resolved two)

  with_far : (name : List ℕ) → IsOutOfReach kit build (cause.N3 name) → (other : LinkNo) → IsFirstRefusal kit build other
      → cause.N3 name ≡ other
  with_far name one cause.N5 two =
      absurd (not_beyond one.names two.names one.code two.code one.fitted one.fit two.resolved two.beyond)
  with_far name one (cause.N3 called) two = ap (λ (name : List ℕ). cause.N3 name) (same_far name called one two)
  with_far name one (cause.N7 called) two = absurd (not_far two.names two.code two.fitted two.codes two.around name two.placed one)
  with_far name one (cause.Flow pos refusal) two = absurd (not_far two.names two.code two.fitted two.codes two.around name two.placed one)
  with_far name one other two = absurd (build_laws.never one.names one.code other one.fit.resolved two)

  with_astray : (name : List ℕ) → GoesAstray kit build (cause.N7 name) → (other : LinkNo) → IsFirstRefusal kit build other
      → cause.N7 name ≡ other
  with_astray name one cause.N5 two =
      absurd (not_beyond one.names two.names one.code two.code one.fitted one.placed.fit two.resolved two.beyond)
  with_astray name one (cause.N3 called) two = absurd (not_far one.names one.code one.fitted one.codes one.around called one.placed two)
  with_astray name one (cause.N7 called) two = ap (λ (name : List ℕ). cause.N7 name) (same_astray name called one two)
  with_astray name one (cause.Flow pos refusal) two =
      absurd (no_astray two.names two.code two.fitted two.codes two.around name two.placed two.goals one)
  with_astray name one other two = absurd (build_laws.never one.names one.code other one.placed.fit.resolved two)

  with_breach : (pos : Pos) (refusal : FlowNo) → BreaksRules kit build (cause.Flow pos refusal) → (other : LinkNo)
      → IsFirstRefusal kit build other → cause.Flow pos refusal ≡ other
  with_breach pos refusal one cause.N5 two =
      absurd (not_beyond one.names two.names one.code two.code one.fitted one.placed.fit two.resolved two.beyond)
  with_breach pos refusal one (cause.N3 called) two =
      absurd (not_far one.names one.code one.fitted one.codes one.around called one.placed two)
  with_breach pos refusal one (cause.N7 called) two =
      absurd (no_astray one.names one.code one.fitted one.codes one.around called one.placed one.goals two)
  with_breach pos refusal one (cause.Flow place wide) two = same_breach pos place refusal wide one two
  with_breach pos refusal one other two = absurd (build_laws.never one.names one.code other one.placed.fit.resolved two)

  with_unresolved : (told : LinkNo) → IsUnresolved kit build told → (other : LinkNo) → IsFirstRefusal kit build other → told ≡ other
  with_unresolved told one cause.N5 two = absurd (build_laws.never two.names two.code told two.resolved one)
  with_unresolved told one (cause.N3 name) two = absurd (build_laws.never two.names two.code told two.fit.resolved one)
  with_unresolved told one (cause.N7 name) two = absurd (build_laws.never two.names two.code told two.placed.fit.resolved one)
  with_unresolved told one (cause.Flow pos refusal) two = absurd (build_laws.never two.names two.code told two.placed.fit.resolved one)
  with_unresolved told one other two = build_laws.first told other one two

  pub one_refusal : (told other : LinkNo) → IsFirstRefusal kit build told → IsFirstRefusal kit build other → told ≡ other
  one_refusal cause.N5 other one two = with_limits one other two
  one_refusal (cause.N3 name) other one two = with_far name one other two
  one_refusal (cause.N7 name) other one two = with_astray name one other two
  one_refusal (cause.Flow pos refusal) other one two = with_breach pos refusal one other two
  one_refusal told other one two = with_unresolved told one other two

-- The functions of an image have one list of instructions each at their places, or one first of them has none.
use Rattle.std.proofs.Common.{◌≡◌, ◌<◌, ℕ, Option, List, length, map, take, Some, slice_index, sym, ap, ◌∙◌, subst, inl, inr, arith}
use Rattle.std.specs.Prelude.{All}
use Rattle.std.specs.List.{AllZip, slice_get}
use Rattle.std.proofs.lemmas.Bool.{cases_order}
use Rattle.std.proofs.lemmas.Option.{slice_get_within}
use Rattle.std.proofs.lemmas.Slice.Zip.{AllZip-long}
use Rattle.goasm_base.specs.declared.pos.Pos.{Pos}
use Rattle.asm_target.specs.declared.body.Placed.{Placed}
use Rattle.unit_listing.specs.declared.laid.Laid.{Laid}
use Rattle.unit_listing.specs.Kit.{Kit}
use Rattle.unit_listing.specs.Laid.{IsSameLaid}
use Rattle.link_names.specs.Definitions.{Entry, MeansAs}
use Rattle.link_names.specs.declared.definition.Meaning.{Meaning}
use Rattle.link_places.specs.Addresses.{TellsAs}
use Rattle.link_code.specs.declared.placing.Code.{Code}
use Rattle.link_code.specs.declared.site.Site.{Site}
use Rattle.link_code.specs.Code.{HaveDepths, IsCode, IsOfUnit, IsUnreached}
use Rattle.link_code.specs.Positions.{HasPos, IsOfLine}
use Rattle.link_laws.specs.Made.{Made}
use Rattle.link_text.specs.Text.{image_text, made}
use Rattle.link_build.specs.declared.build.Build.{Build}
use Rattle.link_build.specs.declared.link_no.LinkNo.TheVariants as cause
use Rattle.link_build.specs.Functions.{IsSound, Seen}
use Rattle.link_build.proofs.PlaceLemmas.{all_got, zip_left, zip_right}
use Rattle.link_flow.specs.Codes.{AreCodes, IsCodeOf, IsSiteOf}
use Rattle.link_flow.specs.Refusals.{IsTooFar, IsUnplaced}
use Rattle.link_answer.proofs.ListLemmas.{among_first, map_alike, there_is, zip_from_got}
use Rattle.link_answer.proofs.SameLemmas.{IsSameSeen, one_name, seen_at}
use Rattle.link_answer.proofs.SiteLemmas.{code_at, same_site, turned, unreached_at}

-- what is known of one function at an address
pub record CodeLaws {Instr : Type 0} (kit : Kit Instr) : Type 0 where
  pub code : (site : Site) (laid other : Laid Instr) (code again : List (Placed Instr)) → IsSameLaid laid other
      → IsCode kit site laid code → IsCode kit site other again → code ≡ again
  pub depths : (laid other : Laid Instr) (depths again : List ℕ) → IsSameLaid laid other
      → HaveDepths kit laid depths → HaveDepths kit other again → depths ≡ again
  pub never : (symbols : ℕ) (site : Site) (laid other : Laid Instr) (code : List (Placed Instr)) (line : ℕ) → IsOfUnit kit symbols laid
      → IsSameLaid laid other → IsCode kit site laid code → ¬ IsUnreached kit site other line
  pub first : (symbols : ℕ) (site : Site) (laid other : Laid Instr) (line number : ℕ) → IsOfUnit kit symbols laid
      → IsSameLaid laid other → IsUnreached kit site laid line → IsUnreached kit site other number → line ≡ number
  pub line : (laid other : Laid Instr) (number line its : ℕ) → IsSameLaid laid other
      → IsOfLine kit laid number line → IsOfLine kit other number its → line ≡ its
  pub place : (site : Site) (laid other : Laid Instr) (code : List (Placed Instr)) (address : ℕ) (place its : Pos) → IsSameLaid laid other
      → IsCode kit site laid code → HasPos kit laid code address place → HasPos kit other code address its → place ≡ its

module _ {Instr : Type 0} where
  -- two functions with the same instructions, and the same depths
  pub record IsAlike (one other : Code Instr) : Type 0 where
    pub placed : one.placed.items ≡ other.placed.items
    pub depths : one.depths.items ≡ other.depths.items

  -- functions of two answers, with what their symbols stand for and the addresses of that, are the same
  pub record AreSame (names others : List Entry) (addresses those : List (Meaning × ℕ)) (funcs twos : List (Seen Instr)) : Type 0 where
    pub alike : MeansAs names others
    pub tells : TellsAs addresses those
    pub funcs_are : AllZip IsSameSeen funcs twos

module _ {Instr : Type 0} (kit : Kit Instr) (laws : CodeLaws kit) where
  -- each function has instructions
  pub code_of : (names : List Entry) (addresses : List (Meaning × ℕ)) (funcs : List (Seen Instr)) (at : List ℕ) (codes : List (Code Instr))
      → AreCodes names addresses kit funcs at codes → (number : ℕ) (func : Seen Instr) → slice_get funcs number ≡ Some func
      → (code : Code Instr) × (slice_get codes number ≡ Some code) × IsCodeOf names addresses kit func (slice_index at number) code
  code_of names addresses funcs at codes are number func here =
      let within : number < length funcs = slice_get_within funcs number func here in
      let count = are.count in
      let found = there_is codes number (omega arith) in
      (found.0, found.1, are.each number func found.0 here found.1)

  module _ (names others : List Entry) (addresses those : List (Meaning × ℕ)) where
    -- the instructions of one function
    alike_at : MeansAs names others → TellsAs addresses those → (one other : Seen Instr) → IsSameSeen one other → (at : ℕ)
        (code again : Code Instr) → IsCodeOf names addresses kit one at code → IsCodeOf others those kit other at again → IsAlike code again
    alike_at alike tells one other same at code again is that =
        let site = same_site names others addresses those alike tells one other same at is.site that.site is.of that.of in
        record {
          placed = laws.code that.site one.part.laid other.part.laid code.placed.items again.placed.items same.part.laid
              (code_at kit is.site that.site site one.part.laid code.placed.items is.placed) that.placed;
          depths = laws.depths one.part.laid other.part.laid code.depths.items again.depths.items same.part.laid is.depths that.depths;
        }

    -- a function that has instructions has no first line that reaches nothing
    not_far : MeansAs names others → TellsAs addresses those → (one other : Seen Instr) → IsSameSeen one other → (at : ℕ)
        (code : Code Instr) → IsCodeOf names addresses kit one at code → (site : Site) → IsSiteOf others those other at site
        → (name : List ℕ) → IsTooFar kit other site name → ⊥
    not_far alike tells one other same at code is site that name far =
        let sites = same_site names others addresses those alike tells one other same at is.site site is.of that in
        laws.never (length is.site.addresses.now) site one.part.laid other.part.laid code.placed.items far.line is.of_unit same.part.laid
        (code_at kit is.site site sites one.part.laid code.placed.items is.placed) far.unreached

    one_far : MeansAs names others → TellsAs addresses those → (one other : Seen Instr) → IsSameSeen one other → (symbols : ℕ)
        → IsOfUnit kit symbols one.part.laid → (at : ℕ) (site its : Site) → IsSiteOf names addresses one at site
        → IsSiteOf others those other at its → (name called : List ℕ) → IsTooFar kit one site name → IsTooFar kit other its called
        → name ≡ called
    one_far alike tells one other same symbols valid at site its is that name called far wide =
        let sites = turned site its (same_site names others addresses those alike tells one other same at site its is that) in
        let line = laws.first symbols site one.part.laid other.part.laid far.line wide.line valid same.part.laid far.unreached
        (unreached_at kit its site sites other.part.laid wide.line wide.unreached) in
        one_name one other same far.line wide.line line name called far.named wide.named

    module _ (funcs twos : List (Seen Instr)) (same : AreSame names others addresses those funcs twos) (at : List ℕ) where
      pub codes_alike : (codes again : List (Code Instr)) → AreCodes names addresses kit funcs at codes → AreCodes others those kit twos at again
          → AllZip IsAlike codes again
      codes_alike codes again are those_are =
          let count : length twos ≡ length funcs = AllZip-long IsSameSeen funcs twos same.funcs_are in
          zip_from_got IsAlike codes again (those_are.count ∙ count ∙ sym are.count) (λ number one other here there.
          let within : number < length codes = slice_get_within codes number one here in
          let first = are.count in
          let func = there_is funcs number (omega arith) in
          let its = zip_left IsSameSeen funcs twos number func.0 same.funcs_are func.1 in
          alike_at same.alike same.tells func.0 its.0 its.2 (slice_index at number) one other
          (are.each number func.0 one func.1 here) (those_are.each number its.0 other its.1 there))

      -- with the instructions of some functions, none of them is the first without
      not_among : (name : List ℕ) (bad : IsUnplaced kit others those twos at (cause.N3 name)) (some : List (Seen Instr))
          → ((func : Seen Instr) → slice_get funcs bad.number ≡ Some func → slice_get some bad.number ≡ Some func)
          → (codes : List (Code Instr)) → AreCodes names addresses kit some at codes → ⊥
      not_among name bad some among codes are =
          let found = zip_right IsSameSeen funcs twos bad.number bad.func same.funcs_are bad.here in
          let code = code_of names addresses some at codes are bad.number found.0 (among found.0 found.1) in
          not_far same.alike same.tells found.0 bad.func found.2 (slice_index at bad.number) code.0 code.2 bad.site bad.of name bad.far

      pub not_unplaced : (name : List ℕ) (codes : List (Code Instr)) → AreCodes names addresses kit funcs at codes
          → IsUnplaced kit others those twos at (cause.N3 name) → ⊥
      not_unplaced name codes are bad = not_among name bad funcs (λ func here. here) codes are

      not_sooner : (name called : List ℕ) (one : IsUnplaced kit names addresses funcs at (cause.N3 name))
          (two : IsUnplaced kit others those twos at (cause.N3 called)) → two.number < one.number → ⊥
      not_sooner name called one two less =
          not_among called two (take one.number funcs) (λ func here. among_first funcs one.number two.number func less here)
          one.before.0 one.before.1

  module _ (build : Build) (names others : List Entry) (addresses those : List (Meaning × ℕ)) (funcs twos : List (Seen Instr))
      (same : AreSame names others addresses those funcs twos) (back : AreSame others names those addresses twos funcs) (at : List ℕ) where
    pub one_unplaced : All (IsSound kit build) funcs → (name called : List ℕ) → IsUnplaced kit names addresses funcs at (cause.N3 name)
        → IsUnplaced kit others those twos at (cause.N3 called) → name ≡ called
    one_unplaced sound name called one two =
        let number : one.number ≡ two.number =
        elim (cases_order one.number two.number) as (λ _. one.number ≡ two.number) [
          | inl equal ↦ equal
          | inr (inl less) ↦ absurd (not_sooner others names those addresses twos funcs back at called name two one less)
          | inr (inr more) ↦ absurd (not_sooner names others addresses those funcs twos same at name called one two more)
        ] in
        let here : slice_get twos one.number ≡ Some two.func = subst (λ number. slice_get twos number ≡ Some two.func) (sym number) two.here in
        let of : IsSiteOf others those two.func (slice_index at one.number) two.site
        = subst (λ number. IsSiteOf others those two.func (slice_index at number) two.site) (sym number) two.of in
        let func = seen_at funcs twos same.funcs_are one.number one.func two.func one.here here in
        let is = all_got (IsSound kit build) funcs one.number one.func sound one.here in
        one_far names others addresses those same.alike same.tells one.func two.func func (length one.func.unit.symbols)
        (one.func.part.function.now, is.form, is.laid) (slice_index at one.number) one.site two.site one.of of name called one.far two.far

module _ {Instr : Type 0} where
  made_alike : (one other : Code Instr) → IsAlike one other → made one ≡ made other
  made_alike one other alike =
      let with_code : List (Placed Instr) → Made Instr = λ items. record { code = map (λ placed. placed.instr) items; depths = one.depths.items } in
      let with_depths : List ℕ → Made Instr
      = λ depths. record { code = map (λ placed. placed.instr) other.placed.items; depths = depths } in
      ap with_code alike.placed ∙ ap with_depths alike.depths

  -- functions that are alike make one text
  pub same_text : (kit : Kit Instr) (growth : Option ℕ) (codes again : List (Code Instr)) → AllZip IsAlike codes again
      → image_text kit growth codes ≡ image_text kit growth again
  same_text kit growth codes again alike = let same = map_alike IsAlike made made_alike codes again alike in cc

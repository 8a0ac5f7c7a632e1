-- The functions that have their instructions so far, and the addresses of symbols at hand.
use Rattle.std.proofs.Common.{◌≡◌, ℕ, ◌+◌, ◌^◌, ◌<◌, ◌≤◌, List, [], ◌∷◌, ◌++◌, All, length, map, take, Some, None, slice_index, inl, inr, sym, ap, subst, ◌∙◌, arith, length-append}
use Rattle.std.specs.List.{slice_get}
use Rattle.std.proofs.lemmas.Bool.{cases_lt}
use Rattle.std.proofs.lemmas.List.{get_or_past, length-map, length-take-le}
use Rattle.std.proofs.lemmas.Option.{get_or_from_slice_get, slice_get_within}
use Rattle.asm_parse.specs.declared.unit.Unit.{Unit as Said}
use Rattle.link_build.specs.declared.build.Build.{Build}
use Rattle.link_build.specs.declared.link_no.LinkNo.{LinkNo}
use Rattle.link_build.specs.declared.func.Func.{Func}
use Rattle.link_build.specs.Functions.{IsSound, Seen, seen}
use Rattle.link_code.specs.declared.placing.Code.{Code}
use Rattle.link_code.specs.declared.site.Site.{Site}
use Rattle.link_code.specs.Code.{IsOfUnit}
use Rattle.link_names.specs.declared.definition.Meaning.{Meaning}
use Rattle.link_names.specs.Definitions.{Entry}
use Rattle.link_plan.specs.Addresses.{symbol_address}
use Rattle.unit_listing.specs.Kit.{Kit}
use Rattle.link_flow.specs.declared.symbols.UnitSymbols.{UnitSymbols}
use Rattle.link_flow.specs.Codes.{AreCodes, AreCodesSomewhere, AreKnown, IsCodeOf, IsCodeSomewhere, IsSiteOf, symbols_of}
use Rattle.link_flow.specs.Refusals.{IsOutOfReach, IsUnplaced}
use Rattle.link_flow.proofs.ListLemmas.{at_front, from_take}

-- what stands nowhere stands near
pub near_at : (at : List ℕ) (k : ℕ) → All (λ place. place ≤ 2 ^ 24) at → slice_index at k ≤ 2 ^ 24
near_at at k near =
    elim (cases_lt k (length at)) [
      | inl within ↦ near k 0 within
      | inr past ↦ let none = get_or_past at k 0 past in omega (arith, none)
    ]

module _ {Instr : Type 0} (kit : Kit Instr) where
  pub of_unit : (build : Build) (func : Seen Instr) → IsSound kit build func → IsOfUnit kit (length func.unit.symbols) func.part.laid
  of_unit build func is = (func.part.function.now, is.form, is.laid)

  -- a function with its instructions, of all that have theirs
  pub code_somewhere : (funcs : List (Seen Instr)) (codes : List (Code Instr)) (k : ℕ) (func : Seen Instr) (code : Code Instr)
      → slice_get funcs k ≡ Some func → slice_get codes k ≡ Some code → AreCodesSomewhere kit funcs codes → IsCodeSomewhere kit func code
  code_somewhere funcs codes k func code here there (names, addresses, at, are) =
      (names, addresses, slice_index at k, near_at at k are.near, are.each k func code here there)

  -- each of these instructions is that of a function
  pub within_funcs : (funcs : List (Func Instr)) (codes : List (Code Instr)) (k : ℕ) → AreCodesSomewhere kit (map seen funcs) codes
      → k < length codes → k < length funcs
  within_funcs funcs codes k (names, addresses, at, are) within =
      let count = are.count in
      let long = length-map funcs (λ (func : Func Instr). seen func) in
      omega (arith, count, long, within)

  pub sound_at : (build : Build) (funcs : List (Seen Instr)) (k : ℕ) (func : Seen Instr) → All (IsSound kit build) funcs
      → slice_get funcs k ≡ Some func → IsSound kit build func
  sound_at build funcs k func all here =
      subst (IsSound kit build) (get_or_from_slice_get funcs k func func here) (all k func (slice_get_within funcs k func here))

  module _ (names : List Entry) (addresses : List (Meaning × ℕ)) where
    -- The first functions have their instructions, and the addresses at hand are those of the unit that they're said to be of
    pub record HasFirst (funcs : List (Seen Instr)) (at : List ℕ) (number : ℕ) (symbols : UnitSymbols) (codes : List (Code Instr)) : Type 0 where
      pub count : length codes ≡ number
      pub each : (k : ℕ) (func : Seen Instr) (code : Code Instr) → slice_get funcs k ≡ Some func → slice_get codes k ≡ Some code
          → IsCodeOf names addresses kit func (slice_index at k) code
      pub known : (k : ℕ) (func : Seen Instr) → slice_get funcs k ≡ Some func → AreKnown names addresses symbols func

    pub none_yet : (funcs : List (Seen Instr)) (at : List ℕ) (symbols : UnitSymbols) (codes : List (Code Instr)) → symbols.unit ≡ None
        → codes ≡ [] → HasFirst funcs at 0 symbols codes
    none_yet funcs at symbols codes no_unit none = record {
      count = ap length none;
      each = λ k func code here there. absurd (empty k code (subst (λ (codes : List (Code Instr)). slice_get codes k ≡ Some code) none there));
      known = λ k func here is. absurd (apart func (sym no_unit ∙ is));
    }
      where
        empty : (k : ℕ) (code : Code Instr) → slice_get [] k ≡ Some code → ⊥
        empty k code is = cc

        apart : (func : Seen Instr) → None ≡ Some func.number → ⊥
        apart func is = cc

    module _ (build : Build) (funcs : List (Seen Instr)) (sound : All (IsSound kit build) funcs) where
      -- functions of one unit have the same symbols
      same_symbols : (func other : Seen Instr) → IsSound kit build func → IsSound kit build other → func.number ≡ other.number
          → symbols_of names addresses func ≡ symbols_of names addresses other
      same_symbols func other is also same =
          let both : Some func.unit ≡ Some other.unit = sym is.unit ∙ ap (slice_get build.units) same ∙ also.unit in
          let unit : func.unit ≡ other.unit = cc in
          ap (λ (n : ℕ). map (symbol_address names addresses n) func.unit.symbols) same
          ∙ ap (λ (unit : Said). map (symbol_address names addresses other.number) unit.symbols) unit

      pub known_next : (number : ℕ) (func : Seen Instr) (symbols : UnitSymbols) → slice_get funcs number ≡ Some func
          → symbols.unit ≡ Some func.number → symbols.at.items ≡ symbols_of names addresses func → (k : ℕ) (other : Seen Instr)
          → slice_get funcs k ≡ Some other → AreKnown names addresses symbols other
      known_next number func symbols here unit found k other there same =
          let both : Some func.number ≡ Some other.number = sym unit ∙ same in
          let number_is : func.number ≡ other.number = cc in
          found ∙ same_symbols func other (sound_at build funcs number func sound here) (sound_at build funcs k other sound there) number_is

      pub one_placed : (at : List ℕ) (number : ℕ) (func : Seen Instr) (code : Code Instr) (before after : UnitSymbols)
          (codes more : List (Code Instr)) → slice_get funcs number ≡ Some func → after.unit ≡ Some func.number
          → after.at.items ≡ symbols_of names addresses func → IsCodeOf names addresses kit func (slice_index at number) code
          → more ≡ codes ++ code ∷ [] → HasFirst funcs at number before codes → HasFirst funcs at (number + 1) after more
      one_placed at number func code before after codes more here unit found is whole has = record {
        count = ap length whole ∙ length-append codes (code ∷ []) ∙ ap (λ (n : ℕ). n + 1) has.count;
        each = λ k other one there placed.
            elim (at_front codes code k one (subst (λ (codes : List (Code Instr)). slice_get codes k ≡ Some one) whole placed)) [
              | inl front ↦ has.each k other one there front
              | inr last ↦
                  let place : k ≡ number = last.0 ∙ has.count in
                  let both : Some func ≡ Some other = sym here ∙ ap (slice_get funcs) (sym place) ∙ there in
                  let func_is : func ≡ other = cc in
                  subst (λ (n : ℕ). IsCodeOf names addresses kit other (slice_index at n) one) (sym place)
                  (subst (IsCodeOf names addresses kit other (slice_index at number)) last.1
                  (subst (λ (func : Seen Instr). IsCodeOf names addresses kit func (slice_index at number) code) func_is is))
            ];
        known = known_next number func after here unit found;
      }

    -- the first functions stand at their places
    pub first_codes : (funcs : List (Seen Instr)) (at : List ℕ) (number : ℕ) (symbols : UnitSymbols) (codes : List (Code Instr))
        → All (λ place. place ≤ 2 ^ 24) at → number ≤ length funcs → HasFirst funcs at number symbols codes
        → AreCodes names addresses kit (take number funcs) at codes
    first_codes funcs at number symbols codes near within has = record {
      near = near;
      count = has.count ∙ sym (length-take-le number funcs within);
      each = λ k func code here there. has.each k func code (from_take number funcs k func here) there;
    }

    -- the first that has no instructions at its place
    pub first_unplaced : (funcs : List (Seen Instr)) (at : List ℕ) (number : ℕ) (func : Seen Instr) (symbols : UnitSymbols)
        (codes : List (Code Instr)) (no : LinkNo) → All (λ place. place ≤ 2 ^ 24) at → slice_get funcs number ≡ Some func
        → HasFirst funcs at number symbols codes
        → (site : Site) × IsSiteOf names addresses func (slice_index at number) site × IsOutOfReach kit func site no
        → IsUnplaced kit names addresses funcs at no
    first_unplaced funcs at number func symbols codes refusal near here has (site, of, far) =
        let within = slice_get_within funcs number func here in
        record {
          number = number;
          func = func;
          here = here;
          site = site;
          of = of;
          far = far;
          before = (codes, first_codes funcs at number symbols codes near (omega (arith, within)) has);
        }

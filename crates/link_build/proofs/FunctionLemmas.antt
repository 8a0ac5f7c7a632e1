-- The functions of an image are functions of the units of its build, with their instructions.
use Rattle.std.proofs.Common.{◌≡◌, Bool, true, false, ℕ, List, [], ◌∷◌, map, length, Some, sym, ap, ◌∙◌, subst}
use Rattle.std.specs.Prelude.{All, if◌then◌else◌, slice_get}
use Rattle.std.proofs.lemmas.List.Elements.{All-cons, All-map, All-nil}
use Rattle.goasm_base.specs.declared.statement.Function.{Function}
use Rattle.goasm_base.specs.Statements.{IsValidFunction}
use Rattle.asm_parse.specs.Placed.{FunctionIn, UnitIn}
use Rattle.asm_parse.specs.Valid.{IsValidUnit}
use Rattle.asm_parse.specs.declared.unit.Symbol.{Symbol}
use Rattle.asm_parse.specs.declared.unit.Unit.{Unit as Said}
use Rattle.link_names.specs.Definitions.{Entry, numbered}
use Rattle.link_functions.specs.Code.{AreParts, IsPart, IsPartWithin, IsUnitLaid}
use Rattle.link_functions.specs.Kept.{is_kept, kept, kept_among, kept_in}
use Rattle.link_functions.specs.declared.code.Part.{Part}
use Rattle.link_functions.specs.declared.code.UnitCode.{UnitCode}
use Rattle.unit_listing.specs.Kit.{Kit}
use Rattle.unit_listing.specs.Laid.{IsLaid}
use Rattle.link_build.specs.declared.build.Build.{Build}
use Rattle.link_build.specs.Functions.{IsSound, functions_in, functions_of, seen_in}
use Rattle.link_build.specs.Resolved.{IsResolved, IsValidBuild}
use Rattle.link_build.proofs.PlaceLemmas.{all_each, all_from_got, all_got, numbered_got, some_mapped, zip_right}

-- the function stands in its unit under its number
abbrev StandsIn : List Function → ℕ × Function → Type 0
StandsIn functions one = slice_get functions one.0 ≡ Some one.1

kept_stand : (names : List Entry) (unit : ℕ) (symbols : List Symbol) (functions : List Function)
    → All (StandsIn functions) (kept_among names unit symbols functions)
kept_stand names unit symbols functions =
    all_each (kept names unit symbols) (StandsIn functions) functions
    (λ number function here. if_kept (is_kept names unit symbols number function) number function here)
  where
    if_kept : (is : Bool) (number : ℕ) (function : Function) → slice_get functions number ≡ Some function
        → All (StandsIn functions) (if is then (number, function) ∷ [] else [])
    if_kept true number function here = All-cons (StandsIn functions) (number, function) [] here (All-nil (StandsIn functions))
    if_kept false number function here = All-nil (StandsIn functions)

abbrev pub pair : ℕ → Said → ℕ × Said
pair number unit = (number, unit)

module _ {Instr : Type 0} (kit : Kit Instr) (build : Build) (names : List Entry) where
  -- those of one unit
  unit_sound : (number : ℕ) (said : Said) (parts : List (Part Instr)) → slice_get build.units number ≡ Some said → IsValidUnit said
      → UnitIn (length build.files) said → AreParts kit (kept_in names number said) parts
      → All (IsPartWithin (length said.symbols)) parts → All (IsSound kit build) (map (seen_in number said) parts)
  unit_sound number said parts there valid placed are within =
      All-map (IsSound kit build) (seen_in number said) parts
      (all_from_got (λ (part : Part Instr). IsSound kit build (seen_in number said part)) parts (λ place part here.
      let it = zip_right (IsPart kit) (kept_in names number said) parts place part are here in
      let stands : StandsIn said.functions it.0
      = all_got (StandsIn said.functions) (kept_in names number said) place it.0 (kept_stand names number said.symbols said.functions) it.1 in
      let is : slice_get said.functions part.number ≡ Some part.function.now
      = ap (slice_get said.functions) it.2.number ∙ stands ∙ ap (λ (function : Function). Some function) (sym it.2.function) in
      record {
        unit = there;
        valid = valid;
        function = is;
        form = all_got (IsValidFunction (length said.symbols)) said.functions part.number part.function.now valid.functions is;
        placed = all_got (FunctionIn (length build.files)) said.functions part.number part.function.now placed.functions is;
        laid = subst (λ (function : Function). IsLaid kit function part.laid) (sym it.2.function) it.2.laid;
        within = all_got (IsPartWithin (length said.symbols)) parts place part within here;
      }))

  pub all_sound : (code : List (UnitCode Instr)) → IsValidBuild build → IsResolved kit build names code → All (IsSound kit build) (functions_in code)
  all_sound code valid resolved =
      all_each functions_of (IsSound kit build) code (λ number unit here.
      let units = build.units in
      let it = zip_right (IsUnitLaid kit names) (numbered pair units) code number unit resolved.laid.laid here in
      let one = some_mapped (pair number) (slice_get units number) it.0 (sym (numbered_got pair units number) ∙ it.1) in
      let laid : IsUnitLaid kit names (number, one.0) unit
      = subst (λ (other : ℕ × Said). IsUnitLaid kit names other unit) (sym one.2) it.2 in
      let is : one.0 ≡ unit.unit.now = sym laid.unit_is in
      let said = unit.unit.now in
      let there : slice_get units number ≡ Some said = one.1 ∙ ap (λ (other : Said). Some other) is in
      unit_sound number said unit.parts.items there
      (all_got IsValidUnit units number said valid.units there)
      (all_got (UnitIn (length build.files)) units number said valid.placed there)
      (subst (λ (other : Said). AreParts kit (kept_in names number other) unit.parts.items) is laid.parts)
      (all_got (λ (one : UnitCode Instr). All (IsPartWithin (length one.unit.now.symbols)) one.parts.items) code number unit resolved.laid.within here))

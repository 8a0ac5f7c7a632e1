-- The functions of an image at their addresses.
use Rattle.std.specs.Prelude.{◌≡◌, ℕ, ◌+◌, ◌^◌, ◌≤◌, List, All, Some, length, map, slice_index}
use Rattle.std.specs.List.{slice_get}
use Rattle.link_build.specs.Functions.{Seen}
use Rattle.link_code.specs.declared.placing.Code.{Code}
use Rattle.link_code.specs.declared.site.Site.{Site}
use Rattle.link_code.specs.Code.{HaveDepths, IsCode, IsOfUnit}
use Rattle.link_names.specs.declared.definition.Meaning.{Meaning}
use Rattle.link_names.specs.Definitions.{Entry}
use Rattle.link_plan.specs.Addresses.{growth_address, symbol_address, text_address}
use Rattle.unit_listing.specs.Kit.{Kit}
use Rattle.link_flow.specs.declared.symbols.UnitSymbols.{UnitSymbols}

module _ {Instr : Type 0} (names : List Entry) (addresses : List (Meaning × ℕ)) where
  -- the addresses of the symbols of the function's unit
  abbrev pub symbols_of : Seen Instr → List ℕ
  symbols_of func = map (symbol_address names addresses func.number) func.unit.symbols

  -- if the addresses are said to be those of the function's unit, they are
  abbrev pub AreKnown : UnitSymbols → Seen Instr → Type 0
  AreKnown symbols func = symbols.unit ≡ Some func.number → symbols.at.items ≡ symbols_of func

  -- the function stands at this place of the text, and its symbols have these addresses
  pub record IsSiteOf (func : Seen Instr) (at : ℕ) (site : Site) : Type 0 where
    pub entry : site.entry ≡ text_address + at
    pub symbols : site.addresses.now ≡ symbols_of func
    pub growth : site.growth ≡ growth_address names addresses func.part.laid.flags

  module _ (kit : Kit Instr) where
    -- these are the function's instructions there, with their depths
    pub record IsCodeOf (func : Seen Instr) (at : ℕ) (code : Code Instr) : Type 0 where
      pub site : Site
      pub of : IsSiteOf func at site
      pub of_unit : IsOfUnit kit (length site.addresses.now) func.part.laid
      pub placed : IsCode kit site func.part.laid code.placed.items
      pub depths : HaveDepths kit func.part.laid code.depths.items

    -- these are those of all functions, each at its place
    pub record AreCodes (funcs : List (Seen Instr)) (at : List ℕ) (codes : List (Code Instr)) : Type 0 where
      pub near : All (λ place. place ≤ 2 ^ 24) at
      pub count : length codes ≡ length funcs
      pub each : (number : ℕ) (func : Seen Instr) (code : Code Instr) → slice_get funcs number ≡ Some func
          → slice_get codes number ≡ Some code → IsCodeOf func (slice_index at number) code

module _ {Instr : Type 0} (kit : Kit Instr) where
  -- these are the instructions of the function, with their depths, at some place that a text may have
  abbrev pub IsCodeSomewhere : Seen Instr → Code Instr → Type 0
  IsCodeSomewhere func code =
      (names : List Entry) × (addresses : List (Meaning × ℕ)) × (at : ℕ) × (at ≤ 2 ^ 24) × IsCodeOf names addresses kit func at code

  -- the same of all functions
  abbrev pub AreCodesSomewhere : List (Seen Instr) → List (Code Instr) → Type 0
  AreCodesSomewhere funcs codes =
      (names : List Entry) × (addresses : List (Meaning × ℕ)) × (at : List ℕ) × AreCodes names addresses kit funcs at codes

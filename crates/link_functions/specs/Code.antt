-- The instructions of the functions of a build that count, and the first one that has none.
use Rattle.std.specs.Prelude.{◌≡◌, ℕ, ◌<◌, List, [], ◌∷◌, ◌++◌, length, All, IfSome}
use Rattle.std.specs.List.{AllZip}
use Rattle.goasm_base.specs.declared.statement.Function.{Function}
use Rattle.asm_target.specs.declared.body.Line.{Line}
use Rattle.asm_target.specs.declared.refer.To.{To}
use Rattle.asm_target.specs.declared.refer.To.TheVariants as to
use Rattle.asm_parse.specs.declared.unit.Unit.{Unit as Said}
use Rattle.asm_parse.specs.Valid.{IsValidUnit}
use Rattle.link_names.specs.Definitions.{Entry, numbered}
use Rattle.unit_listing.specs.declared.laid.Laid.{Laid}
use Rattle.unit_listing.specs.declared.listing_no.ListingNo.{ListingNo}
use Rattle.unit_listing.specs.Kit.{Kit}
use Rattle.unit_listing.specs.Laid.{IsLaid}
use Rattle.unit_listing.specs.Listing.{IsRefused}
use Rattle.link_functions.specs.declared.code.Part.{Part}
use Rattle.link_functions.specs.declared.code.UnitCode.{UnitCode}
use Rattle.link_functions.specs.Kept.{kept_in}

-- a symbol that is referred to is one of so many
abbrev pub IsGoalWithin : ℕ → To → Type 0
IsGoalWithin symbols (to.Symbol sym off) = sym < symbols
IsGoalWithin symbols _ = Unit {0}

module _ {Instr : Type 0} where
  abbrev pub IsLineWithin : ℕ → Line Instr → Type 0
  IsLineWithin symbols line = IfSome line.refer (λ refer. IsGoalWithin symbols refer.to)

  -- each symbol to which the lines refer is one of so many
  abbrev pub AreWithin : ℕ → Laid Instr → Type 0
  AreWithin symbols laid = All (IsLineWithin symbols) laid.body.code

  abbrev pub IsPartWithin : ℕ → Part Instr → Type 0
  IsPartWithin symbols part = AreWithin symbols part.laid

  -- the unit is one on which calls can rely
  abbrev pub IsValidCode : UnitCode Instr → Type 0
  IsValidCode code = IsValidUnit code.unit.now

  -- each symbol to which the functions of a unit refer is one of its own
  abbrev pub IsUnitWithin : UnitCode Instr → Type 0
  IsUnitWithin code = All (IsPartWithin (length code.unit.now.symbols)) code.parts.items

module _ {Instr : Type 0} (kit : Kit Instr) where
  -- the part is the function of this number, with its instructions
  pub record IsPart (kept : ℕ × Function) (part : Part Instr) : Type 0 where
    pub number : part.number ≡ kept.0
    pub function : part.function.now ≡ kept.1
    pub laid : IsLaid kit kept.1 part.laid

  -- the parts are these functions, in their order
  abbrev pub AreParts : List (ℕ × Function) → List (Part Instr) → Type 0
  AreParts kept parts = AllZip IsPart kept parts

  module _ (names : List Entry) where
    -- the code is that of the unit of this number: its functions that count
    pub record IsUnitLaid (unit : ℕ × Said) (code : UnitCode Instr) : Type 0 where
      pub unit_is : code.unit.now ≡ unit.1
      pub parts : AreParts (kept_in names unit.0 unit.1) code.parts.items

    -- the code is that of the units, in their order
    abbrev pub AreLaid : List Said → List (UnitCode Instr) → Type 0
    AreLaid units code = AllZip IsUnitLaid (numbered (λ number unit. (number, unit)) units) code

  -- a function has instructions, with their places
  abbrev pub HasCode : ℕ × Function → Type 0
  HasCode kept = (laid : Laid Instr) × IsLaid kit kept.1 laid

  -- the first function that is refused; those before it have instructions
  pub record IsFirstUnlaid (functions : List (ℕ × Function)) (no : ListingNo) : Type 0 where
    pub before : List (ℕ × Function)
    pub kept : ℕ × Function
    pub behind : List (ℕ × Function)
    pub whole : functions ≡ before ++ kept ∷ behind
    pub fine : All HasCode before
    pub refused : IsRefused kit kept.1 no

  -- Adding

  -- the instructions are those of a function of a unit with so many symbols
  pub record IsSoundLaid (symbols : ℕ) (function : Function) (laid : Laid Instr) : Type 0 where
    pub laid_is : IsLaid kit function laid
    pub within : AreWithin symbols laid

  pub record HasParts (symbols : ℕ) (kept : List (ℕ × Function)) (parts : List (Part Instr)) : Type 0 where
    pub parts_are : AreParts kept parts
    pub within : All (IsPartWithin symbols) parts

  -- further functions came to the parts
  unfoldable pub Adds : ℕ → List (Part Instr) → List (ℕ × Function) → List (Part Instr) → Type 0
  Adds symbols old more new = (before : List (ℕ × Function)) → HasParts symbols before old → HasParts symbols (before ++ more) new

  -- the unit of this number came to the code
  pub record AddsUnit (names : List Entry) (number : ℕ) (unit : Said) (old new : List (UnitCode Instr)) : Type 0 where
    pub code : UnitCode Instr
    pub whole : new ≡ old ++ code ∷ []
    pub unit_is : code.unit.now ≡ unit
    pub has : HasParts (length unit.symbols) (kept_in names number unit) code.parts.items

-- Code that is the same but for the tables by which references were followed.
use Rattle.std.specs.Prelude.{◌≡◌, List}
use Rattle.std.specs.List.{AllZip}
use Rattle.link_functions.specs.declared.code.Part.{Part}
use Rattle.link_functions.specs.declared.code.UnitCode.{UnitCode}
use Rattle.unit_listing.specs.Laid.{IsSameLaid}

module _ {Instr : Type 0} where
  pub record IsSamePart (one other : Part Instr) : Type 0 where
    pub number : one.number ≡ other.number
    pub function : one.function.now ≡ other.function.now
    pub laid : IsSameLaid one.laid other.laid

  pub record IsSameUnit (one other : UnitCode Instr) : Type 0 where
    pub unit : one.unit.now ≡ other.unit.now
    pub parts : AllZip IsSamePart one.parts.items other.parts.items

  abbrev pub IsSameCode : List (UnitCode Instr) → List (UnitCode Instr) → Type 0
  IsSameCode code others = AllZip IsSameUnit code others

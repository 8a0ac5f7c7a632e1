-- What holds of a unit, on which every call that takes one relies.
use Rattle.std.specs.Prelude.{ℕ, ◌<◌, All, length, IfSome}
use Rattle.goasm_base.specs.Statements.{IsValidFunction}
use Rattle.asm_grammar.specs.Names.{HasNoZero}
use Rattle.asm_parse.specs.declared.unit.Unit.{Unit as Said}
use Rattle.asm_parse.specs.declared.unit.Symbol.{Symbol}
use Rattle.asm_parse.specs.declared.unit.DataPart.{DataPart}
use Rattle.asm_parse.specs.declared.unit.GlobalPart.{GlobalPart}

-- no byte of the symbol's name is zero
abbrev pub IsValidSymbol : Symbol → Type 0
IsValidSymbol symbol = HasNoZero symbol.name

-- the symbol of a part is one of so many, and so is the one whose address it is
pub record IsValidData (symbols : ℕ) (part : DataPart) : Type 0 where
  pub symbol : part.sym < symbols
  pub address : IfSome part.address (λ to. to.0 < symbols)

abbrev pub IsValidGlobal : ℕ → GlobalPart → Type 0
IsValidGlobal symbols part = part.sym < symbols

pub record IsValidUnit (unit : Said) : Type 0 where
  pub names : All IsValidSymbol unit.symbols
  pub functions : All (IsValidFunction (length unit.symbols)) unit.functions
  pub values : All (IsValidData (length unit.symbols)) unit.values
  pub globals : All (IsValidGlobal (length unit.symbols)) unit.globals

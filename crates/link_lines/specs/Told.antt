-- What a function table is told of a build's functions.
use Rattle.std.specs.Prelude.{◌≡◌, ℕ, List, length, Some}
use Rattle.std.specs.List.{slice_get}
use Rattle.link_build.specs.Functions.{Seen}
use Rattle.link_tables.specs.declared.func_lines.FuncLines.{FuncLines}
use Rattle.unit_listing.specs.Lines.{symbol_name}

module _ {Instr : Type 0} where
  -- The name of a function is that of its symbol in its unit. What its `TEXT` says is told, and its lines with their places
  pub record IsToldBy (func : Seen Instr) (entry : ℕ) (lines : FuncLines Instr) : Type 0 where
    pub name : lines.name.now ≡ symbol_name func.unit.symbols func.part.function.now.sym
    pub begins : lines.entry ≡ entry
    pub args : lines.args ≡ func.part.function.now.args
    pub flags : lines.flags ≡ func.part.function.now.flags
    pub start_line : lines.start_line ≡ func.part.function.now.pos.line
    pub code : lines.lines.now ≡ func.part.laid.body.code
    pub places : lines.places.now ≡ func.part.laid.sizes.places
    pub long : lines.length ≡ func.part.laid.sizes.length

  -- of each function, in their order: the one of a number has the entry of that number
  pub record AreToldBy (funcs : List (Seen Instr)) (entries : List ℕ) (all : List (FuncLines Instr)) : Type 0 where
    pub as_many : length all ≡ length funcs
    pub each : (number entry : ℕ) (func : Seen Instr) (lines : FuncLines Instr) → slice_get funcs number ≡ Some func
        → slice_get entries number ≡ Some entry → slice_get all number ≡ Some lines → IsToldBy func entry lines

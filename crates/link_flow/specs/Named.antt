-- The names of what instructions refer to.
use Rattle.std.specs.Prelude.{◌≡◌, ℕ, List, Option, Some, None}
use Rattle.std.specs.List.{slice_get}
use Rattle.asm_parse.specs.declared.unit.Symbol.{Symbol}
use Rattle.asm_target.specs.declared.body.Line.{Line}
use Rattle.asm_target.specs.declared.refer.Refer.{Refer}
use Rattle.asm_target.specs.declared.refer.To.{To}
use Rattle.asm_target.specs.declared.refer.To.TheVariants as to
use Rattle.link_build.specs.Functions.{Seen}
use Rattle.unit_listing.specs.Lines.{growth_name, symbol_name}

module _ (symbols : List Symbol) (flags : ℕ) (own : List ℕ) where
  -- the name of what is referred to; inside the function it's the function's own
  abbrev pub goal_name : To → List ℕ
  goal_name (to.Symbol sym off) = symbol_name symbols sym
  goal_name to.Grow = growth_name flags
  goal_name _ = own

  abbrev pub refer_name : Option Refer → List ℕ
  refer_name None = own
  refer_name (Some refer) = goal_name refer.to

module _ {Instr : Type 0} (func : Seen Instr) where
  abbrev pub own_name : List ℕ
  own_name = symbol_name func.unit.symbols func.part.function.now.sym

  -- the name of what a line of the function refers to
  abbrev pub line_name : Line Instr → List ℕ
  line_name line = refer_name func.unit.symbols func.part.laid.flags own_name line.refer

  -- it's the name of what the line of this number refers to
  pub record IsNamed (number : ℕ) (name : List ℕ) : Type 0 where
    pub line : Line Instr
    pub here : slice_get func.part.laid.body.code number ≡ Some line
    pub named : name ≡ line_name line

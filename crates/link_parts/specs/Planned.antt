-- What the symbols of an image are made of: functions and data that have a symbol and a place.
use Rattle.std.specs.Prelude.{◌≡◌, ℕ, ◌≤◌, ◌^◌, List, All, Some, length}
use Rattle.std.specs.List.{slice_get}
use Rattle.std.specs.List.Sorted.{IsStrictlyIncreasing}
use Rattle.asm_grammar.specs.Names.{HasNoZero}
use Rattle.asm_parse.specs.declared.unit.GlobalPart.{GlobalPart}
use Rattle.asm_parse.specs.declared.unit.Symbol.{Symbol}
use Rattle.asm_parse.specs.declared.unit.Unit.{Unit as Said}
use Rattle.link_build.specs.declared.build.Build.{Build}
use Rattle.link_build.specs.Functions.{Seen}
use Rattle.link_build.specs.Resolved.{IsOutside}
use Rattle.link_plan.specs.declared.planning.Plan.{Plan}
use Rattle.link_values.specs.declared.kept.KeptValue.{KeptValue}

-- a function's symbol is one of its unit, whose name has no zero byte
pub record HasSymbol {Instr : Type 0} (func : Seen Instr) : Type 0 where
  pub symbol : Symbol
  pub here : slice_get func.unit.symbols func.part.function.now.sym ≡ Some symbol
  pub name : HasNoZero symbol.name

-- data is declared by a `GLOBL` of one of the units, and its symbol's name has no zero byte
pub record IsDeclared (units : List Said) (value : KeptValue) : Type 0 where
  pub said : Said
  pub unit : slice_get units value.unit ≡ Some said
  pub global : GlobalPart
  pub declaration : slice_get said.globals value.number ≡ Some global
  pub symbol : Symbol
  pub here : slice_get said.symbols global.sym ≡ Some symbol
  pub name : HasNoZero symbol.name

-- each of so many things has its place, near the first
pub record HavePlaces (count : ℕ) (places : List ℕ) : Type 0 where
  pub as_many : count ≡ length places
  pub near : All (λ place. place ≤ 2 ^ 24) places

-- the functions rise by their places, and what lies outside has names
pub record AreListable {Instr : Type 0} (build : Build) (funcs : List (Seen Instr)) (plan : Plan) : Type 0 where
  pub functions : All HasSymbol funcs
  pub function_places : HavePlaces (length funcs) plan.functions.at
  pub rising : IsStrictlyIncreasing plan.functions.at
  pub values : All (IsDeclared build.units) plan.kept.items
  pub value_places : HavePlaces (length plan.kept.items) plan.values.at
  pub end : plan.values.end ≤ 2 ^ 24
  pub outside : All IsOutside build.outside

-- Where stand what was read and what is refused: where the tokens do, by a count of files that all of them are below, on
-- lines that a source can have.
use Rattle.std.specs.Prelude.{ℕ, ◌<◌, ◌≤◌, All, IfSome}
use Rattle.goasm_base.specs.Lines.{last_line}
use Rattle.goasm_base.specs.declared.pos.Pos.{Pos}
use Rattle.goasm_base.specs.declared.statement.Function.{Function}
use Rattle.goasm_base.specs.declared.statement.Stmt.{Stmt}
use Rattle.asm_lex.specs.declared.token.Token.{Token}
use Rattle.asm_parse.specs.declared.lines.Body.{Body}
use Rattle.asm_parse.specs.declared.lines.Line.{Line}
use Rattle.asm_parse.specs.declared.parse_no.ParseNo.{ParseNo}
use Rattle.asm_parse.specs.declared.parse_no.ParseNo.TheVariants.{P1, P2, P3, P4, P5, P6, P7, P8, P9, P10, Memory}
use Rattle.asm_parse.specs.declared.progress.PlacedData.{PlacedData}
use Rattle.asm_parse.specs.declared.progress.PlacedGlobal.{PlacedGlobal}
use Rattle.asm_parse.specs.declared.unit.Unit.{Unit as Said}
use Rattle.asm_parse.specs.declared.unit.DataPart.{DataPart}
use Rattle.asm_parse.specs.declared.unit.GlobalPart.{GlobalPart}
use Rattle.asm_parse.specs.Progress.{State}

-- the place is on a line of one of so many files
pub record IsIn (count : ℕ) (pos : Pos) : Type 0 where
  pub file : pos.file < count
  pub line : pos.line ≤ last_line

abbrev pub TokenIn : ℕ → Token → Type 0
TokenIn count token = IsIn count token.pos

abbrev pub StatementIn : ℕ → Stmt → Type 0
StatementIn count stmt = IsIn count stmt.pos

-- a function, and each of its statements
pub record FunctionIn (count : ℕ) (function : Function) : Type 0 where
  pub pos : IsIn count function.pos
  pub stmts : All (StatementIn count) function.stmts

abbrev pub DataIn : ℕ → DataPart → Type 0
DataIn count part = IsIn count part.pos

abbrev pub GlobalIn : ℕ → GlobalPart → Type 0
GlobalIn count part = IsIn count part.pos

pub record UnitIn (count : ℕ) (unit : Said) : Type 0 where
  pub functions : All (FunctionIn count) unit.functions
  pub values : All (DataIn count) unit.values
  pub globals : All (GlobalIn count) unit.globals

-- what is refused stands in one of them; want of memory has no place
abbrev pub NoIn : ℕ → ParseNo → Type 0
NoIn count (P1 pos) = IsIn count pos
NoIn count (P2 pos) = IsIn count pos
NoIn count (P3 pos) = IsIn count pos
NoIn count (P4 pos) = IsIn count pos
NoIn count (P5 pos) = IsIn count pos
NoIn count (P6 pos) = IsIn count pos
NoIn count (P7 pos) = IsIn count pos
NoIn count (P8 pos) = IsIn count pos
NoIn count (P9 pos) = IsIn count pos
NoIn count (P10 pos) = IsIn count pos
NoIn count Memory = Unit {0}

-- The same of what was read so far.

abbrev pub LineIn : ℕ → Line → Type 0
LineIn count line = IsIn count line.pos

pub record BodyIn (count : ℕ) (body : Body) : Type 0 where
  pub pos : IsIn count body.pos
  pub lines : All (LineIn count) body.lines

abbrev pub ValueIn : ℕ → PlacedData → Type 0
ValueIn count placed = IsIn count placed.pos

abbrev pub DeclaredIn : ℕ → PlacedGlobal → Type 0
DeclaredIn count placed = IsIn count placed.pos

pub record StateIn (count : ℕ) (state : State) : Type 0 where
  pub bodies : All (BodyIn count) state.bodies
  pub head : IfSome state.head (λ head. IsIn count head.pos)
  pub lines : All (LineIn count) state.lines.lines
  pub values : All (ValueIn count) state.values
  pub globals : All (DeclaredIn count) state.globals

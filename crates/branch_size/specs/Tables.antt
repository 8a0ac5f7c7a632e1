-- The tables by which references are followed.
use Rattle.std.specs.Prelude.{◌≡◌, ℕ, ◌+◌, List, length, position, Option, Some, None}
use Rattle.std.specs.List.{slice_get}
use Rattle.asm_target.specs.declared.body.Line.{Line}
use Rattle.asm_target.specs.declared.frame.Guard.{Guard}
use Rattle.asm_target.specs.declared.refer.To.{To}
use Rattle.asm_target.specs.declared.refer.To.TheVariants as to
use Rattle.branch_size.specs.declared.goals.Goals.{Goals}
use Rattle.asm_target.specs.Goals.{block_of, stands_from}

-- the table has the lines of the function's references
pub record HasGoals {Instr : Type 0} (guard : Guard Instr) (code : List (Line Instr)) (goals : Goals) : Type 0 where
  pub firsts : (number : ℕ) → slice_get goals.firsts.items number ≡ position (stands_from number) code
  pub block : goals.block ≡ block_of guard (length code)
  pub past : goals.past ≡ block_of guard (length code) + length guard.block

-- the line that the table has for a reference
abbrev pub line_in : Goals → To → Option ℕ
line_in goals (to.Stmt number) = slice_get goals.firsts.items number
line_in goals to.Entry = Some 0
line_in goals to.Block = Some goals.block
line_in goals to.Past = Some goals.past
line_in goals (to.Symbol sym off) = None
line_in goals to.Grow = None

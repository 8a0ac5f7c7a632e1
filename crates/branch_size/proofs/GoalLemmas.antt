-- The table of a function's lines tells where its references lead.
use Rattle.std.proofs.Common.{◌≡◌, List, Some, refl, ap}
use Rattle.asm_target.specs.declared.body.Line.{Line}
use Rattle.asm_target.specs.declared.frame.Guard.{Guard}
use Rattle.asm_target.specs.declared.refer.To.{To}
use Rattle.asm_target.specs.declared.refer.To.TheVariants as to
use Rattle.asm_target.specs.Goals.{line_of}
use Rattle.branch_size.specs.declared.goals.Goals.{Goals}
use Rattle.branch_size.specs.Tables.{HasGoals, line_in}

pub same_line : {Instr : Type 0} (guard : Guard Instr) (code : List (Line Instr)) (goals : Goals) (goal : To)
    → HasGoals guard code goals → line_in goals goal ≡ line_of guard code goal
same_line guard code goals (to.Stmt number) has = has.firsts number
same_line guard code goals to.Entry has = refl
same_line guard code goals to.Block has = ap Some has.block
same_line guard code goals to.Past has = ap Some has.past
same_line guard code goals (to.Symbol sym off) has = refl
same_line guard code goals to.Grow has = refl

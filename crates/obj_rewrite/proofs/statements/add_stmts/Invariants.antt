use Rattle.std.proofs.Common.{drop, false, get_or}
use Rattle.goasm_base.specs.declared.pos.Pos.{Pos}
use Rattle.asm_target.specs.declared.select_no.SelectNo.{SelectNo}
use Rattle.obj_rewrite.specs.Draft.{IsDraft, written}
use Rattle.obj_rewrite.specs.Rewriting.{Code, Refuses, Rewrites, rules_of}
use Rattle.obj_rewrite.proofs.statements.add_stmts.Given as goal

abbrev pub invariant-loop-number : goal.invariant-loop-number
invariant-loop-number g l =
    let rules = rules_of g.T.Processor.instructions g.T.Processor.SHAPE g.T.Target.begins g.T.Target.selection l.frame in
    IsDraft l.draft
    × ((after : Code g.row.T-Instr.Denot) → Rewrites rules (λ number. get_or l.goals number false) (drop l.number l.stmts) l.number (written l.draft) after
    → Rewrites rules (λ number. get_or l.goals number false) l.stmts 0 (written l.fn.draft) after)
    × ((place : Pos) (why : SelectNo) → Refuses rules (λ number. get_or l.goals number false) (drop l.number l.stmts) l.number (written l.draft) place why
    → Refuses rules (λ number. get_or l.goals number false) l.stmts 0 (written l.fn.draft) place why)

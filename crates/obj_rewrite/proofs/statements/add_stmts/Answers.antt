use Rattle.std.proofs.Common.{◌≡◌, ◌<◌, length, false, get_or, arith, rules, Err}
use Rattle.obj_rewrite.specs.declared.rewrite_no.RewriteNo.TheVariants.{Select}
use Rattle.obj_rewrite.specs.Draft.{written}
use Rattle.obj_rewrite.specs.Rewriting.{rules_of}
use Rattle.obj_rewrite.proofs.StepLemmas.{refused_here, steps_on, refused_later}
use Rattle.obj_rewrite.proofs.statements.add_stmts.Goals as goal

pub returns-in_err-add_stmt-clause-refused : goal.returns-in_err-add_stmt-clause-refused
returns-in_err-add_stmt-clause-refused g c = λ place why same.
    let table = rules_of g.T.Processor.instructions g.T.Processor.SHAPE g.T.Target.begins g.T.Target.selection c.args.frame in
    let inside : c.loop-number.number < length c.args.stmts.now = omega arith in
    let told = rw same at c.from_residual.ensures.1 in
    let err : Err c.in_err-add_stmt.field-0.0 ≡ Err (Select place why) = search rules in
    c.loop-number.invariant.2 place why (refused_here table (λ number. get_or c.args.goals.now number false) c.args.stmts.now
    c.loop-number.number c.index-stmts-number.result (written c.loop-number.draft) place why inside
    c.index-stmts-number.is (c.in_err-add_stmt.ensures.refused place why err))

pub loop-number-preserved : goal.loop-number-preserved
loop-number-preserved g c =
    let table = rules_of g.T.Processor.instructions g.T.Processor.SHAPE g.T.Target.begins g.T.Target.selection c.args.frame in
    let inside : c.loop-number.number < length c.args.stmts.now = omega arith in (
      c.in_ok-add_stmt.ensures.draft,
      (λ after rest. c.loop-number.invariant.1 after (steps_on table (λ number. get_or c.args.goals.now number false) c.args.stmts.now
          c.loop-number.number c.index-stmts-number.result (written c.loop-number.draft) (written c.add_stmt.new.draft) after inside
          c.index-stmts-number.is c.in_ok-add_stmt.ensures.step rest)),
      (λ place why rest. c.loop-number.invariant.2 place why (refused_later table (λ number. get_or c.args.goals.now number false)
          c.args.stmts.now c.loop-number.number c.index-stmts-number.result (written c.loop-number.draft)
          (written c.add_stmt.new.draft) place why inside c.index-stmts-number.is c.in_ok-add_stmt.ensures.step rest)),
    )

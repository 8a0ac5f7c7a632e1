use Rattle.std.proofs.Common.{◌≡◌, inl, inr, rules, Err}
use Rattle.obj_rewrite.specs.Draft.{written}
use Rattle.obj_rewrite.specs.Rewriting.{rules_of}
use Rattle.obj_rewrite.specs.declared.rewrite_no.RewriteNo.TheVariants.{Select}
use Rattle.obj_rewrite.proofs.StepLemmas.{as_goals, as_goals_refused, on_ok}
use Rattle.obj_rewrite.proofs.function.add_function.Goals as goal

pub returns-in_err-add_stmts-clause-refused : goal.returns-in_err-add_stmts-clause-refused
returns-in_err-add_stmts-clause-refused g c = λ place why same.
    let table = rules_of g.T.Processor.instructions g.T.Processor.SHAPE g.T.Target.begins g.T.Target.selection c.args.frame in
    let told = rw same at c.from_residual-in_err-add_stmts.ensures.1 in
    let err : Err c.in_err-add_stmts.field-0.0 ≡ Err (Select place why) = search rules in
    inl (as_goals_refused table c.as_slice.result.now c.in_ok-goals.goals.items c.as_slice-stmts.result.now c.args.func.now.stmts
    (written c.args.draft.now) place why c.as_slice.ensures.value c.as_slice-stmts.ensures c.in_ok-goals.ensures.each
    (c.in_err-add_stmts.ensures.refused place why err))

pub returns-clause-written : goal.returns-clause-written
returns-clause-written g c =
    let table = rules_of g.T.Processor.instructions g.T.Processor.SHAPE g.T.Target.begins g.T.Target.selection c.args.frame in
    on_ok c.add_jump.result (λ jump. record {
      before = written c.add_stmts.new.draft;
      statements = as_goals table c.as_slice.result.now c.in_ok-goals.goals.items c.as_slice-stmts.result.now c.args.func.now.stmts
          (written c.args.draft.now) (written c.add_stmts.new.draft) c.as_slice.ensures.value c.as_slice-stmts.ensures
          c.in_ok-goals.ensures.each c.in_ok-add_stmts.ensures.rewrites;
      jump = jump;
    }) c.add_jump.ensures.rewrites

pub returns-clause-refused : goal.returns-clause-refused
returns-clause-refused g c = λ place why same.
    let table = rules_of g.T.Processor.instructions g.T.Processor.SHAPE g.T.Target.begins g.T.Target.selection c.args.frame in
    inr (
      written c.add_stmts.new.draft,
      as_goals table c.as_slice.result.now c.in_ok-goals.goals.items c.as_slice-stmts.result.now c.args.func.now.stmts
          (written c.args.draft.now) (written c.add_stmts.new.draft) c.as_slice.ensures.value c.as_slice-stmts.ensures
          c.in_ok-goals.ensures.each c.in_ok-add_stmts.ensures.rewrites,
      c.add_jump.ensures.refused place why same,
    )

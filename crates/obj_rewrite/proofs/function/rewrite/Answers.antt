use Rattle.std.proofs.Common.{subst}
use Rattle.asm_target.specs.declared.frame.FrameShape.{FrameShape}
use Rattle.std.specs.Result.{IfOk}
use Rattle.obj_rewrite.specs.Rewriting.{rules_of}
use Rattle.obj_rewrite.specs.Rewritten.{IsRefusedAt, IsRewritten}
use Rattle.obj_rewrite.proofs.function.rewrite.Goals as goal

pub returns-in-Ok-clause-body : goal.returns-in-Ok-clause-body
returns-in-Ok-clause-body g c =
    subst (λ (frame : FrameShape). IfOk c.rewrite_in.result (λ body. IsRewritten (rules_of g.T.Processor.instructions g.T.Processor.SHAPE
    g.T.Target.begins g.T.Target.selection frame) c.args.func.now frame (g.T.Target.check frame) (g.T.Target.entry frame) body))
    c.in-Ok.ensures.shape c.rewrite_in.ensures.body

pub returns-in-Ok-clause-refused : goal.returns-in-Ok-clause-refused
returns-in-Ok-clause-refused g c = λ place why same.
    subst (λ (frame : FrameShape). IsRefusedAt (rules_of g.T.Processor.instructions g.T.Processor.SHAPE g.T.Target.begins
    g.T.Target.selection frame) c.args.func.now frame (g.T.Target.check frame) (g.T.Target.entry frame) place why)
    c.in-Ok.ensures.shape (c.rewrite_in.ensures.refused place why same)

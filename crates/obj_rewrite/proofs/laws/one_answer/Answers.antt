use Rattle.stack_split.specs.FrameSizes.{frame_for}
use Rattle.obj_rewrite.specs.Rewriting.{rules_of}
use Rattle.obj_rewrite.proofs.SettledLemmas.{settled, one_body, never_refused_at, one_refusal}
use Rattle.obj_rewrite.proofs.laws.one_answer.Goals as goal

pub returns-clause-one : goal.returns-clause-one
returns-clause-one g c = λ func body other.
    let frame = frame_for g.T.Processor.MACHINE func in
    one_body (rules_of g.T.Processor.instructions g.T.Processor.SHAPE g.T.Target.begins g.T.Target.selection frame)
    (settled g.T.Processor.instructions g.T.Processor.SHAPE g.T.Target.begins g.T.Target.selection frame g.met.T.Target.single
    g.met.T.Target.known) func frame (g.T.Target.check frame) (g.T.Target.entry frame) body other

pub returns-clause-never : goal.returns-clause-never
returns-clause-never g c = λ func body place why.
    let frame = frame_for g.T.Processor.MACHINE func in
    never_refused_at (rules_of g.T.Processor.instructions g.T.Processor.SHAPE g.T.Target.begins g.T.Target.selection frame)
    (settled g.T.Processor.instructions g.T.Processor.SHAPE g.T.Target.begins g.T.Target.selection frame g.met.T.Target.single
    g.met.T.Target.known) func frame (g.T.Target.check frame) (g.T.Target.entry frame) body place why

pub returns-clause-first : goal.returns-clause-first
returns-clause-first g c = λ func place other why reason.
    let frame = frame_for g.T.Processor.MACHINE func in
    one_refusal (rules_of g.T.Processor.instructions g.T.Processor.SHAPE g.T.Target.begins g.T.Target.selection frame)
    (settled g.T.Processor.instructions g.T.Processor.SHAPE g.T.Target.begins g.T.Target.selection frame g.met.T.Target.single
    g.met.T.Target.known) func frame (g.T.Target.check frame) (g.T.Target.entry frame) place other why reason

use Rattle.image_rules.specs.Machine.{machine_of}
use Rattle.image_check.proofs.CheckLemmas.{AreJudged}
use Rattle.image_check.proofs.check.judge_all.Given as goal

abbrev pub invariant-loop-index : goal.invariant-loop-index
invariant-loop-index g l =
    let machine = machine_of g.T.Processor.instructions g.T.Processor.fits g.T.Processor.MACHINE g.T.Processor.QUANTUM
    g.T.Processor.SHAPE g.T.Processor.GROWTH g.T.Target.begins in
    AreJudged machine l.image l.all l.index l.marks.starts l.marks.ends

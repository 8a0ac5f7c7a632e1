use Rattle.std.proofs.Common.{All, take}
use Rattle.unit_listing.specs.Kit.{kit_of}
use Rattle.link_flow.specs.Refusals.{KeepsGoals}
use Rattle.link_flow.proofs.goals.judge_goals.Given as goal

abbrev pub invariant-loop-number : goal.invariant-loop-number
invariant-loop-number g l =
    let kit = kit_of g.T.Processor.instructions g.T.Processor.fits g.T.Processor.MACHINE g.T.Processor.QUANTUM g.T.Processor.SHAPE g.T.Target.selection
    g.T.Target.aiming g.T.Target.entry g.T.Target.check g.T.Target.begins in
    All (KeepsGoals kit l.around) (take l.number l.codes)

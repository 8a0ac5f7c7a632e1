use Rattle.std.proofs.Common.{is_some}
use Rattle.unwind.proofs.ReachLemmas.{told_by}
use Rattle.unwind.proofs.walker.Walker.next.Goals as goal

pub invariant_of-self : goal.invariant_of-self
invariant_of-self g c = (
  c.self.invariant.0,
  (c.reaches.ensures (g.R.Peek.memory c.self.inside.peek) c.self.inside.stage c.next_stage-self-inside.result c.self.invariant.0 c.self.invariant.1
      c.next_stage-self-inside.ensures.step).0,
)

pub returns-clause-step : goal.returns-clause-step
returns-clause-step g c = rw (← c.self.view_is) c.next_stage-self-inside.ensures.step

pub returns-clause-again : goal.returns-clause-again
returns-clause-again g c = rw (← c.self.view_is) c.next_stage-self-inside.ensures.again

pub returns-clause-told : goal.returns-clause-told
returns-clause-told g c =
    let reached = c.reaches.ensures (g.R.Peek.memory c.self.inside.peek) c.self.inside.stage c.next_stage-self-inside.result c.self.invariant.0
    c.self.invariant.1 c.next_stage-self-inside.ensures.step in
    rw c.answer.ensures
    (told_by c.self.inside.image.now (is_some g.T.Processor.SHAPE.link) c.next_stage-self-inside.result reached.0)

pub returns-clause-fewer : goal.returns-clause-fewer
returns-clause-fewer g c =
    let reached = c.reaches.ensures (g.R.Peek.memory c.self.inside.peek) c.self.inside.stage c.next_stage-self-inside.result c.self.invariant.0
    c.self.invariant.1 c.next_stage-self-inside.ensures.step in
    rw (← c.self.view_is, c.answer.ensures) reached.1

use Rattle.std.proofs.Common.{subst}
use Rattle.unwind.specs.declared.stage.Stage.{Stage}
use Rattle.unwind.specs.Walk.{IsOver}
use Rattle.unwind.proofs.steps.next_stage.Goals as goal

pub returns-in-Start-clause-again : goal.returns-in-Start-clause-again
returns-in-Start-clause-again g c = λ over. absurd (subst (λ (stage : Stage). IsOver stage) c.in-Start.is over)

pub returns-in-At-clause-again : goal.returns-in-At-clause-again
returns-in-At-clause-again g c = λ over. absurd (subst (λ (stage : Stage). IsOver stage) c.in-At.is over)

pub returns-in-Start-clause-step : goal.returns-in-Start-clause-step
returns-in-Start-clause-step g c = rw c.in-Start.is c.begin.ensures

pub returns-in-At-clause-step : goal.returns-in-At-clause-step
returns-in-At-clause-step g c = rw c.in-At.is c.leave.ensures

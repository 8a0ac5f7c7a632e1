use Rattle.image_check.proofs.GoalLemmas.{AreKept}
use Rattle.image_check.specs.Surrounding.{range_of}
use Rattle.image_check.proofs.goals.first_astray.Given as goal

abbrev pub invariant-loop-number : goal.invariant-loop-number
invariant-loop-number g l = AreKept g.T.Processor.instructions (range_of l.text) l.symbols l.code l.number

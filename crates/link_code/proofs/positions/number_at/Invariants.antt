use Rattle.link_code.proofs.PositionLemmas.{StandElsewhere}
use Rattle.link_code.proofs.positions.number_at.Given as goal

abbrev pub invariant-loop-number : goal.invariant-loop-number
invariant-loop-number g l = StandElsewhere l.code l.address l.number

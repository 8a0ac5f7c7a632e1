use Rattle.flow_rules.proofs.HitLemmas.{Spared}
use Rattle.flow_rules.proofs.hits.first_hit.Given as goal

abbrev pub invariant-loop-number : goal.invariant-loop-number
invariant-loop-number g l = Spared (g.L.Listing.function l.list) l.first l.number

use Rattle.std.proofs.Common.{◌≡◌, ◌++◌, ◌≤◌, drop}
use Rattle.link_places.specs.Places.{places_from, end_from}
use Rattle.link_places.proofs.places.places_of.Given as goal

abbrev pub invariant-loop-size : goal.invariant-loop-size
invariant-loop-size l = record {
  begin : l.at.items ++ places_from l.end (drop l.size-index l.sizes) ≡ places_from 0 l.sizes;
  end : end_from l.end (drop l.size-index l.sizes) ≡ end_from 0 l.sizes;
  within : l.end ≤ l.most;
}

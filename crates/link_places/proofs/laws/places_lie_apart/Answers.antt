use Rattle.link_places.proofs.PlaceLemmas.{place_behind}
use Rattle.link_places.proofs.laws.places_lie_apart.Goals as goal

pub returns-clause-behind : goal.returns-clause-behind
returns-clause-behind c = place_behind

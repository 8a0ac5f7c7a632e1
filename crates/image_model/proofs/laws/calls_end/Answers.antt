use Rattle.image_model.proofs.TextLemmas.{call_found, call_here}
use Rattle.image_model.proofs.laws.calls_end.Goals as goal

pub returns-clause-found : goal.returns-clause-found
returns-clause-found c = λ text i k is one inside served. call_here text is i k one inside served

pub returns-clause-only : goal.returns-clause-only
returns-clause-only c = λ text address place is found. call_found text is address place found

use Rattle.image_model.proofs.TextLemmas.{line_found, line_here}
use Rattle.image_model.proofs.laws.lines_stand.Goals as goal

pub returns-clause-found : goal.returns-clause-found
returns-clause-found c = λ text i k is one inside. line_here text is i k one inside

pub returns-clause-only : goal.returns-clause-only
returns-clause-only c = λ text address line is found. line_found text is address line found

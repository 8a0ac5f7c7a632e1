use Rattle.least_forms.proofs.LeastLemmas.{not_both, one_lost}
use Rattle.least_forms.proofs.laws.one_answer.Goals as goal

pub returns-clause-not_both : goal.returns-clause-not_both
returns-clause-not_both g c = λ one other first second all line distance.
    not_both (g.L.Lines.problem c.args.lines.now) (g.met.L.Lines.lawful c.args.lines.now c.requires) one other first second all line distance

pub returns-clause-one_lost : goal.returns-clause-one_lost
returns-clause-one_lost g c = λ one other line distance line' distance' first second lost lost'.
    one_lost (g.L.Lines.problem c.args.lines.now) (g.met.L.Lines.lawful c.args.lines.now c.requires) one other line distance line' distance'
    first second lost lost'

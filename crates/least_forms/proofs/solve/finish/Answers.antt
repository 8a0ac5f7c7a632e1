use Rattle.least_forms.proofs.DropLemmas.{least_left}
use Rattle.least_forms.proofs.solve.finish.Goals as goal

pub returns-clause-least : goal.returns-clause-least
returns-clause-least g c =
    least_left (g.L.Lines.problem c.args.lines.now) (g.met.L.Lines.lawful c.args.lines.now c.requires.fine) c.args.forms.now
    c.drop_lost.new.forms c.requires.reach c.drop_lost.ensures.start c.drop_lost.ensures.dropped

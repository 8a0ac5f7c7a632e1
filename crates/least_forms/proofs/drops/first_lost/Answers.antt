use Rattle.std.proofs.Common.{rules, arith, below_more, refl}
use Rattle.least_forms.specs.Problem.{at}
use Rattle.least_forms.specs.Assignment.{DoesReach}
use Rattle.least_forms.proofs.DropLemmas.{does_reach, first_far}
use Rattle.least_forms.proofs.drops.first_lost.Goals as goal

pub returns-then-is_lost-clause-some : goal.returns-then-is_lost-clause-some
returns-then-is_lost-clause-some g c =
    first_far (g.L.Lines.problem c.args.lines.now) (g.met.L.Lines.lawful c.args.lines.now c.requires.fine) c.args.forms.now c.args.places.now
    c.requires.places c.loop-line.line c.distance.result (search rules) c.loop-line.invariant (c.if-is_lost.ensures.lost refl) c.distance.ensures

pub loop-line-preserved : goal.loop-line-preserved
loop-line-preserved g c =
    below_more (DoesReach (g.L.Lines.problem c.args.lines.now) (at c.args.forms.now)) c.loop-line.line c.loop-line.invariant
    (does_reach (g.L.Lines.problem c.args.lines.now) (g.met.L.Lines.lawful c.args.lines.now c.requires.fine) c.args.forms.now c.args.places.now
    c.requires.places c.loop-line.line (search rules) (c.if-is_lost.ensures.reaches refl))

pub returns-clause-none : goal.returns-clause-none
returns-clause-none g c = λ none line within. c.loop-line.invariant line (omega arith)

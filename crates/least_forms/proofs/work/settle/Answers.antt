use Rattle.std.proofs.Common.{arith}
use Rattle.least_forms.proofs.GrowLemmas.{all_reach}
use Rattle.least_forms.proofs.LoopLemmas.{first_work}
use Rattle.least_forms.proofs.work.settle.Goals as goal

pub returns-clause-reach : goal.returns-clause-reach
returns-clause-reach g c =
    all_reach (g.L.Lines.problem c.args.lines.now) (g.met.L.Lines.lawful c.args.lines.now c.requires.fine) c.requires.room
    c.loop-line.forms c.loop-line.distances c.next_lost.new.marks c.next_lost.ensures.work (c.next_lost.ensures.none c.in_default.is)

pub loop-line-init : goal.loop-line-init
loop-line-init g c = record {
  scanning = record {
    work = first_work (g.L.Lines.problem c.args.lines.now) (g.met.L.Lines.lawful c.args.lines.now c.requires.fine) c.args.forms.now
        c.args.places.now c.args.distances.now c.args.marks.now c.requires.start c.requires.places c.requires.distances c.requires.marks;
    clean = λ k below. absurd (omega arith);
  };
  window = c.window-window.ensures;
}

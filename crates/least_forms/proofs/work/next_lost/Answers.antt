use Rattle.std.proofs.Common.{◌+◌, List, Bool, arith, sym, subst, refl}
use Rattle.least_forms.proofs.LoopLemmas.{Scanning, pass_marked, pass_unmarked}
use Rattle.least_forms.proofs.work.next_lost.Goals as goal
use Rattle.least_forms.proofs.work.next_lost.Goals.{then-marks-line+else-has_lost, else-marks-line}

pub returns-then-has_lost-clause-work : goal.returns-then-has_lost-clause-work
returns-then-has_lost-clause-work g c = c.loop-line.invariant.work

pub returns-then-has_lost-clause-clean : goal.returns-then-has_lost-clause-clean
returns-then-has_lost-clause-clean g c = c.loop-line.invariant.clean

pub loop-line-init : goal.loop-line-init
loop-line-init g c = record { work = c.requires.work; clean = c.requires.clean }

pub loop-line-preserved : goal.loop-line-preserved
loop-line-preserved g c =
    let p = g.L.Lines.problem c.args.lines.now in
    let P : List Bool → Type 0 = λ marks. Scanning p c.args.forms.now c.args.distances.now marks (c.loop-line.line + 1) in
    elim c.if-marks-line.branch [
      | then-marks-line+else-has_lost w ↦ subst P (sym w.marks-is)
          (pass_marked p c.args.forms.now c.args.distances.now c.loop-line.marks c.loop-line.line (omega arith) c.loop-line.invariant
          (w.if-has_lost.ensures.reaches refl))
      | else-marks-line w ↦ subst P (sym w.marks-is)
          (pass_unmarked p c.args.forms.now c.args.distances.now c.loop-line.marks c.loop-line.line c.loop-line.invariant
          w.if-marks-line.false)
    ]

pub returns-clause-work : goal.returns-clause-work
returns-clause-work g c = c.loop-line.invariant.work

pub returns-clause-none : goal.returns-clause-none
returns-clause-none g c = λ none line within. c.loop-line.invariant.clean line (omega arith)

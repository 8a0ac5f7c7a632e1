use Rattle.std.proofs.Common.{◌+◌, List, ℕ, arith, sym, subst, refl}
use Rattle.least_forms.proofs.DropLemmas.{Dropping, none_dropped, drop_far, keep_near}
use Rattle.least_forms.proofs.drops.drop_lost.Goals as goal
use Rattle.least_forms.proofs.drops.drop_lost.Goals.{then-is_lost, else-is_lost}

pub loop-line-init : goal.loop-line-init
loop-line-init g c = none_dropped (g.L.Lines.problem c.args.lines.now) c.args.forms.now c.requires.start

pub loop-line-preserved : goal.loop-line-preserved
loop-line-preserved g c =
    let p = g.L.Lines.problem c.args.lines.now in
    let lawful = g.met.L.Lines.lawful c.args.lines.now c.requires.fine in
    let P : List ℕ → Type 0 = λ forms. Dropping p c.args.forms.now forms (c.loop-line.line + 1) in
    elim c.if-is_lost.branch [
      | then-is_lost w ↦ subst P (sym w.forms-is)
          (drop_far p lawful c.requires.room c.args.forms.now c.loop-line.forms c.args.places.now c.requires.start c.requires.places
          c.loop-line.line (omega arith) c.loop-line.invariant (w.if-is_lost.ensures.lost refl))
      | else-is_lost w ↦ subst P (sym w.forms-is)
          (keep_near p lawful c.args.forms.now c.loop-line.forms c.args.places.now c.requires.places
          c.loop-line.line (omega arith) c.loop-line.invariant (w.if-is_lost.ensures.reaches refl))
    ]

pub returns-clause-start : goal.returns-clause-start
returns-clause-start g c = c.loop-line.invariant.start

pub returns-clause-dropped : goal.returns-clause-dropped
returns-clause-dropped g c = λ line within. c.loop-line.invariant.dropped line (omega arith)

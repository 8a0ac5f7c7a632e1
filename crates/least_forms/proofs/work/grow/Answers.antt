use Rattle.std.proofs.Common.{◌≡◌, ◌+◌, ◌-◌, ℕ, List, Bool, set, rules, arith, sym, subst, refl}
use Rattle.least_forms.proofs.LoopLemmas.{Growing, IsLostOver, none_hit, hit_one, miss_one, fits_grown, grown_start, grown_work, grown_window, grown_marks, grown_shorts}
use Rattle.least_forms.proofs.work.grow.Goals as goal
use Rattle.least_forms.proofs.work.grow.Goals.{then-touches, else-touches}

pub loop-other-init : goal.loop-other-init
loop-other-init g c =
    none_hit (g.L.Lines.problem c.args.lines.now) (set c.args.forms.now c.args.line 1) c.args.line
    (c.width.result - c.width-2.result) c.saturating_sub-first.result c.args.distances.now c.args.marks.now

pub overflow_add-distances : goal.overflow_add-distances
overflow_add-distances g c =
    let p = g.L.Lines.problem c.args.lines.now in
    let lawful = g.met.L.Lines.lawful c.args.lines.now c.requires.fine in
    let lost : IsLostOver p c.args.forms.now c.args.distances.now c.args.line = c.requires.lost in
    let start = grown_start p lawful c.requires.room c.args.forms.now c.args.distances.now c.args.marks.now c.args.line
    c.requires.work lost in
    let fits = fits_grown p lawful c.requires.room c.args.forms.now c.args.distances.now c.args.marks.now c.args.line c.loop-other.other
    c.requires.work lost.1.0 lost.1.2 start (c.if-touches.ensures.0 refl) in
    let old = (c.loop-other.invariant.miss c.loop-other.other (λ is. let most = is.most in omega arith)).0 in
    omega arith

pub loop-other-preserved : goal.loop-other-preserved
loop-other-preserved g c =
    let p = g.L.Lines.problem c.args.lines.now in
    let forms = set c.args.forms.now c.args.line 1 in
    let growth = c.width.result - c.width-2.result in
    let P : List ℕ → List Bool → Type 0 = λ distances marks.
    Growing p forms c.args.line growth c.saturating_sub-first.result (c.loop-other.other + 1) c.args.distances.now distances
    c.args.marks.now marks in
    elim c.if-touches.branch [
      | then-touches w ↦
          subst (λ d. P d c.if-touches.marks) (sym w.distances-is) (subst (P _) (sym w.marks-is)
          (hit_one p forms c.args.line growth c.saturating_sub-first.result c.loop-other.other c.args.distances.now
          c.loop-other.distances c.args.marks.now c.loop-other.marks (omega arith) (omega arith) (omega arith) c.loop-other.invariant
          (w.if-touches.ensures.0 refl)))
      | else-touches w ↦
          subst (λ d. P d c.if-touches.marks) (sym w.distances-is) (subst (P _) (sym w.marks-is)
          (miss_one p forms c.args.line growth c.saturating_sub-first.result c.loop-other.other c.args.distances.now
          c.loop-other.distances c.args.marks.now c.loop-other.marks c.loop-other.invariant
          (λ touches. let never = w.if-touches.ensures.1 touches in cc)))
    ]

pub returns-clause-work : goal.returns-clause-work
returns-clause-work g c =
    let p = g.L.Lines.problem c.args.lines.now in
    let lawful = g.met.L.Lines.lawful c.args.lines.now c.requires.fine in
    let lost : IsLostOver p c.args.forms.now c.args.distances.now c.args.line = c.requires.lost in
    let start = grown_start p lawful c.requires.room c.args.forms.now c.args.distances.now c.args.marks.now c.args.line
    c.requires.work lost in
    let growth : c.width.result - c.width-2.result ≡ p.width c.args.line 1 - p.width c.args.line 0 = cc in
    let P : ℕ → Type 0 = λ n. Growing p (set c.args.forms.now c.args.line 1) c.args.line n c.saturating_sub-first.result
    c.loop-other.other c.args.distances.now c.loop-other.distances c.args.marks.now c.loop-other.marks in
    grown_work p lawful c.requires.room c.args.forms.now c.args.distances.now c.loop-other.distances c.args.marks.now
    c.loop-other.marks c.args.line c.args.window c.saturating_sub-first.result c.loop-other.other c.requires.work c.requires.window
    lost.1.0 lost.1.2 start (search rules) (λ k most within. omega arith) (subst P growth c.loop-other.invariant)

pub returns-clause-window : goal.returns-clause-window
returns-clause-window g c =
    let p = g.L.Lines.problem c.args.lines.now in
    let lawful = g.met.L.Lines.lawful c.args.lines.now c.requires.fine in
    grown_window p lawful c.args.forms.now c.args.line c.args.window c.requires.window (omega arith) c.requires.lost.1.2

pub returns-clause-marks : goal.returns-clause-marks
returns-clause-marks g c =
    grown_marks (g.L.Lines.problem c.args.lines.now) (set c.args.forms.now c.args.line 1) c.args.line
    (c.width.result - c.width-2.result) c.args.window c.saturating_sub-first.result c.loop-other.other c.args.distances.now
    c.loop-other.distances c.args.marks.now c.loop-other.marks (search rules) c.loop-other.invariant

pub returns-clause-fewer : goal.returns-clause-fewer
returns-clause-fewer g c = grown_shorts c.args.forms.now c.args.line (omega arith) c.requires.lost.1.2

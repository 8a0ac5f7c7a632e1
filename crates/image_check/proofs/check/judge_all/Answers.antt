use Rattle.std.proofs.Common.{◌≡◌, ℕ, ◌<◌, ◌≤◌, List, length, ap, arith, subst, sym, ◌∙◌}
use Rattle.std.proofs.lemmas.Result.{err_from_is_err_and}
use Rattle.std.specs.List.Sorted.{IsNonDecreasing}
use Rattle.pclntab.specs.Places.{func_count}
use Rattle.image_marks.specs.Bits.{room}
use Rattle.image_check.specs.Readers.{listed_of}
use Rattle.image_check.specs.Surrounding.{around_of}
use Rattle.image_rules.specs.Machine.{machine_of}
use Rattle.image_rules.specs.Parts.{count_in}
use Rattle.image_check.proofs.CheckLemmas.{marked_image, more_judged, none_sound, refused_here}
use Rattle.image_check.proofs.check.judge_all.Goals as goal

pub loop-index-init : goal.loop-index-init
loop-index-init g c =
    let machine = machine_of g.T.Processor.instructions g.T.Processor.fits g.T.Processor.MACHINE g.T.Processor.QUANTUM
    g.T.Processor.SHAPE g.T.Processor.GROWTH g.T.Target.begins in
    record {
      within = omega arith;
      sound = none_sound machine c.args.image.now c.args.all.now;
      marks = c.in-Ok.ensures.marks c.args.image.now (around_of c.args.all.now);
      start_room = subst (λ (xs : List ℕ). length xs < room c.in-Ok.marks.starts) c.text.ensures c.in-Ok.ensures.start_room;
      end_room = subst (λ (xs : List ℕ). length xs < room c.in-Ok.marks.ends) c.text.ensures c.in-Ok.ensures.end_room;
    }

pub judge-requires-clause-inside : goal.judge-requires-clause-inside
judge-requires-clause-inside g c =
    subst (λ (n : ℕ). c.loop-index.index < n) (c.count-index-end.ensures ∙ ap func_count c.requires.table) c.loop-index-test.true

pub returns-in_err-function-clause-refused : goal.returns-in_err-function-clause-refused
returns-in_err-function-clause-refused g c =
    let machine = machine_of g.T.Processor.instructions g.T.Processor.fits g.T.Processor.MACHINE g.T.Processor.QUANTUM
    g.T.Processor.SHAPE g.T.Processor.GROWTH g.T.Target.begins in
    let p = err_from_is_err_and c.from_residual.result c.from_residual.ensures.1 in
    let inside : c.loop-index.index < count_in c.args.image.now =
    subst (λ (n : ℕ). c.loop-index.index < n) (c.count-index-end.ensures ∙ ap func_count c.requires.table) c.loop-index-test.true in
    rw (p.1, p.2) (λ other. refused_here machine c.args.image.now c.args.all.now c.requires.readable c.requires.surroundings
    c.loop-index.index inside c.loop-index.invariant.sound c.in_err-function.field-0.0 (c.in_err-function.ensures.broken other))

pub mark-requires-clause-ordered : goal.mark-requires-clause-ordered
mark-requires-clause-ordered g c =
    subst IsNonDecreasing (sym c.deref.ensures.value) c.requires.surroundings.surrounds.ordered

pub mark-requires-clause-function : goal.mark-requires-clause-function
mark-requires-clause-function g c =
    let inside : c.loop-index.index < count_in c.args.image.now =
    subst (λ (n : ℕ). c.loop-index.index < n) (c.count-index-end.ensures ∙ ap func_count c.requires.table) c.loop-index-test.true in
    record {
      readable = c.requires.readable;
      index = c.loop-index.index;
      inside = inside;
      function = c.in_ok-function.ensures.sound.function;
    }

pub loop-index-preserved : goal.loop-index-preserved
loop-index-preserved g c =
    let machine = machine_of g.T.Processor.instructions g.T.Processor.fits g.T.Processor.MACHINE g.T.Processor.QUANTUM
    g.T.Processor.SHAPE g.T.Processor.GROWTH g.T.Target.begins in
    let inside : c.loop-index.index < count_in c.args.image.now =
    subst (λ (n : ℕ). c.loop-index.index < n) (c.count-index-end.ensures ∙ ap func_count c.requires.table) c.loop-index-test.true in
    more_judged machine c.args.image.now c.args.all.now c.loop-index.index (listed_of c.in_ok-function.function)
    c.loop-index.marks.starts c.loop-index.marks.ends c.mark.new.self.starts c.mark.new.self.ends inside
    c.in_ok-function.ensures.sound c.loop-index.invariant
    (c.mark.ensures.marks (around_of c.args.all.now) c.loop-index.index (sym c.deref.ensures.value) c.in_ok-function.ensures.sound.function
    c.loop-index.invariant.marks) c.mark.ensures.start_room c.mark.ensures.end_room

pub returns-clause-marked : goal.returns-clause-marked
returns-clause-marked g c =
    let machine = machine_of g.T.Processor.instructions g.T.Processor.fits g.T.Processor.MACHINE g.T.Processor.QUANTUM
    g.T.Processor.SHAPE g.T.Processor.GROWTH g.T.Target.begins in
    let count : c.count-index-end.result ≡ count_in c.args.image.now = c.count-index-end.ensures ∙ ap func_count c.requires.table in
    let long : count_in c.args.image.now ≤ c.loop-index.index =
    subst (λ (n : ℕ). n ≤ c.loop-index.index) count c.loop-index-test.false in
    marked_image machine c.args.image.now c.args.all.now c.requires.readable c.requires.surroundings c.requires.short c.loop-index.index
    c.loop-index.marks.starts c.loop-index.marks.ends long c.loop-index.invariant

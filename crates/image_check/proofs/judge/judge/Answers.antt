use Rattle.std.proofs.Common.{◌<◌, length, sym, ap, subst, ◌∙◌}
use Rattle.std.specs.List.Sorted.{IsNonDecreasing}
use Rattle.std.proofs.lemmas.Result.{err_from_is_err_and}
use Rattle.flow_rules.specs.Placing.{ArePlaced, Surroundings}
use Rattle.image_check.specs.Readers.{listed_of}
use Rattle.image_check.specs.Surrounding.{around_of, range_of}
use Rattle.image_rules.specs.Machine.{machine_of}
use Rattle.image_check.proofs.StandingLemmas.{are_placed, as_many, some_code}
use Rattle.image_check.proofs.GoalLemmas.{first_lost, none_lost}
use Rattle.image_check.proofs.JudgeLemmas.{flow_here, first_here, kept_here}
use Rattle.image_check.proofs.judge.judge.Goals as goal

pub returns-in_err-function-clause-broken : goal.returns-in_err-function-clause-broken
returns-in_err-function-clause-broken g c =
    let p = err_from_is_err_and c.from_residual.result c.from_residual.ensures.1 in
    rw (p.1, p.2) (λ other. c.in_err-function.ensures.broken other (around_of c.args.all.now))

pub flow_ok-requires : goal.flow_ok-requires
flow_ok-requires g c =
    let machine = machine_of g.T.Processor.instructions g.T.Processor.fits g.T.Processor.MACHINE g.T.Processor.QUANTUM
    g.T.Processor.SHAPE g.T.Processor.GROWTH g.T.Target.begins in
    let bytes = c.args.image.now in
    let listed = listed_of c.in_ok-function.function in
    let is = c.in_ok-function.ensures.function in
    let code = c.deref.ensures.value in
    record {
      some = subst (λ xs. 0 < length xs) (sym code) (some_code machine bytes c.args.index listed is);
      as_many = ap length c.deref-2.ensures.value ∙ as_many machine bytes c.args.index listed is ∙ ap length (sym code);
      placed = subst ArePlaced (sym code)
          (are_placed machine bytes c.args.index listed is g.met.T.Processor.lengths c.requires.readable c.requires.short c.requires.inside);
      ordered = subst IsNonDecreasing (sym (ap (λ (around : Surroundings). around.entries) c.outside-outside.ensures))
          c.requires.surroundings.entries;
      routines = subst IsNonDecreasing (sym (ap (λ (around : Surroundings). around.growth) c.outside-outside.ensures))
          c.requires.surroundings.surrounds.ordered;
    }

pub first_astray-requires : goal.first_astray-requires
first_astray-requires g c = subst IsNonDecreasing (sym c.deref-4.ensures.value) c.requires.surroundings.ordered

pub returns-in-Some-clause-broken : goal.returns-in-Some-clause-broken
returns-in-Some-clause-broken g c =
    let machine = machine_of g.T.Processor.instructions g.T.Processor.fits g.T.Processor.MACHINE g.T.Processor.QUANTUM
    g.T.Processor.SHAPE g.T.Processor.GROWTH g.T.Target.begins in
    let bytes = c.args.image.now in
    let all = c.args.all.now in
    let listed = listed_of c.in_ok-function.function in
    let sound = flow_here machine bytes listed c.deref.ensures.value c.deref-2.ensures.value c.outside-outside.ensures c.in_default.ensures.ok in
    λ _. first_lost machine bytes all c.requires.surroundings (around_of all) c.args.index listed c.in-Some.place
    c.in_ok-function.ensures.function sound
    (first_here machine.set (range_of all.text) c.deref-3.ensures.value c.deref-4.ensures.value c.in-Some.place c.in-Some.ensures.first)

pub returns-clause-sound : goal.returns-clause-sound
returns-clause-sound g c =
    let machine = machine_of g.T.Processor.instructions g.T.Processor.fits g.T.Processor.MACHINE g.T.Processor.QUANTUM
    g.T.Processor.SHAPE g.T.Processor.GROWTH g.T.Target.begins in
    let bytes = c.args.image.now in
    let all = c.args.all.now in
    let listed = listed_of c.in_ok-function.function in
    record {
      function = c.in_ok-function.ensures.function;
      flow = flow_here machine bytes listed c.deref.ensures.value c.deref-2.ensures.value c.outside-outside.ensures c.in_default.ensures.ok;
      goals = none_lost machine bytes all c.requires.surroundings listed.code
          (kept_here machine.set (range_of all.text) c.deref-3.ensures.value c.deref-4.ensures.value
          c.in_default-first_astray.ensures.none);
    }

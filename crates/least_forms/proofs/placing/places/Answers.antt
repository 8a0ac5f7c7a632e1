use Rattle.std.proofs.Common.{◌+◌, ◌≤◌, rules, arith, sym}
use Rattle.least_forms.specs.Problem.{at}
use Rattle.least_forms.proofs.PlaceLemmas.{place_first, place_next, place_small}
use Rattle.least_forms.proofs.placing.places.Goals as goal

pub loop-line-init : goal.loop-line-init
loop-line-init g c = record {
  len = c.new-places.ensures.len;
  here = sym (place_first (g.L.Lines.problem c.args.lines.now) (at c.args.forms.now));
  each = λ k below. absurd (omega arith);
}

pub overflow_add-place : goal.overflow_add-place
overflow_add-place g c =
    let p = g.L.Lines.problem c.args.lines.now in
    let within : c.loop-line.line + 1 ≤ p.count = omega arith in
    let next = place_next p (at c.args.forms.now) c.loop-line.line in
    let small = place_small p (g.met.L.Lines.lawful c.args.lines.now c.requires.fine) c.requires.room (at c.args.forms.now)
    c.requires.start.small (c.loop-line.line + 1) within in
    omega arith

pub loop-line-preserved : goal.loop-line-preserved
loop-line-preserved g c =
    let p = g.L.Lines.problem c.args.lines.now in
    let next = place_next p (at c.args.forms.now) c.loop-line.line in
    record {
      len = search rules;
      here = omega arith;
      each = search rules;
    }

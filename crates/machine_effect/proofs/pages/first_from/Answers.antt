use Rattle.std.proofs.Common.{◌<◌, ◌^◌, refl, arith}
use Rattle.machine_effect.specs.Page.{page_size}
use Rattle.machine_effect.proofs.PageLemmas.{none_before, first_byte, low_page}
use Rattle.machine_effect.proofs.pages.first_from.Goals as goal

pub returns-in-Some-first_from-clause-some : goal.returns-in-Some-first_from-clause-some
returns-in-Some-first_from-clause-some c =
    first_byte c.args.pages.now c.args.from c.loop-found.number c.loop-found.place c.in-Some.found c.start_in.result c.in-Some.page.now
    c.loop-found.invariant.none c.in-Some.ensures.some c.start_in.ensures.here c.start_in.ensures.behind
    c.in-Some-first_from.place c.loop-found.invariant.from_on c.loop-found.invariant.within c.in-Some-first_from.ensures.some

pub loop-found-preserved : goal.loop-found-preserved
loop-found-preserved c =
    let low : c.in-Some.found < 2 ^ 52 = low_page c.args.pages.now c.in-Some.found c.in-Some.page.now c.requires c.in-Some.ensures.some.has in
    record {
      from_on = omega (arith, c.in-Some.ensures.some.from_on);
      within = omega arith;
      low = omega arith;
      none = λ q from high.
          none_before c.args.pages.now c.args.from c.loop-found.number c.loop-found.place c.in-Some.found c.start_in.result c.in-Some.page.now
          c.loop-found.invariant.none c.in-Some.ensures.some c.start_in.ensures.here c.start_in.ensures.behind
          page_size (omega arith) (λ k from _. c.in_default-first_from.ensures.none refl k from) q from (omega arith);
    }

use Rattle.std.proofs.Common.{◌≡◌, ◌+◌, ◌<◌, ◌∙◌, subst, get_or, length, arith}
use Rattle.byte_layout.specs.Joined.{aligned}
use Rattle.link_places.proofs.PlaceLemmas.{places_more, end_more, places_all, end_all, too_far}
use Rattle.link_places.proofs.places.places_of.Goals as goal

pub loop-size-preserved : goal.loop-size-preserved
loop-size-preserved c =
    let i = c.loop-size.size-index in
    let place : c.in-Some.place ≡ aligned 16 c.loop-size.end = c.in-Some.ensures.1 in
    let within : i < length c.args.sizes.now = c.loop-size-test.true in
    record {
      begin = rw c.in_ok-push.ensures.items (places_more c.loop-size.at.items c.loop-size.end c.in-Some.place i c.args.sizes.now _ place within c.loop-size.invariant.begin);
      end = end_more c.loop-size.end c.in-Some.place i c.args.sizes.now place within ∙ c.loop-size.invariant.end;
      within = omega (arith, c.in-Some.ensures.0);
    }

pub returns-in_default-clause-none : goal.returns-in_default-clause-none
returns-in_default-clause-none c =
    let i = c.loop-size.size-index in
    let within : i < length c.args.sizes.now = c.loop-size-test.true in
    let far : c.args.most < aligned 16 c.loop-size.end + get_or c.args.sizes.now i 0 = omega (arith, c.in_default.ensures) in
    subst (λ end. c.args.most < end) c.loop-size.invariant.end (too_far c.loop-size.end i c.args.most c.args.sizes.now within far)

pub returns-clause-begin : goal.returns-clause-begin
returns-clause-begin c =
    c.new.ensures ∙ places_all c.loop-size.at.items c.loop-size.end c.loop-size.size-index c.args.sizes.now c.loop-size-test.false ∙ c.loop-size.invariant.begin

pub returns-clause-end : goal.returns-clause-end
returns-clause-end c =
    end_all c.loop-size.end c.loop-size.size-index c.args.sizes.now c.loop-size-test.false ∙ c.loop-size.invariant.end

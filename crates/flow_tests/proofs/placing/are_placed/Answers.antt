use Rattle.std.proofs.Common.{arith, below_more, refl}
use Rattle.std.proofs.lemmas.Option.{slice_get_within}
use Rattle.flow_tests.specs.Neighbours.{StandsRight}
use Rattle.flow_tests.proofs.placing.are_placed.Goals as goal

pub returns : goal.returns
returns g c = λ is.
    let code = c.args.code.now in
    record {
      some = λ k one there. (c.loop-number.invariant k (omega (arith, slice_get_within code k one there))).some one there;
      room = λ k one there. (c.loop-number.invariant k (omega (arith, slice_get_within code k one there))).room one there;
      follows = λ k one other there next.
          (c.loop-number.invariant k (omega (arith, slice_get_within code k one there))).follows one other there next;
    }

pub loop-number-preserved : goal.loop-number-preserved
loop-number-preserved g c =
    below_more (λ k. StandsRight c.args.code.now k) c.loop-number.number c.loop-number.invariant (c.if-not-stands_right.ensures refl)

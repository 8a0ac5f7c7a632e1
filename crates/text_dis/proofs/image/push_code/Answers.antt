use Rattle.std.proofs.Common.{◌≡◌, ◌-◌, refl, ap, ◌∙◌, length, length-drop, arith}
use Rattle.text_dis.proofs.ListingLemmas.{done, on}
use Rattle.text_dis.proofs.image.push_code.Goals as goal

pub loop-found-preserved : goal.loop-found-preserved
loop-found-preserved g c =
    let len : length c.behind-rest.result.now ≡ length c.loop-found.rest.now - c.in-Some.found.1 =
    ap length c.behind-rest.ensures ∙ length-drop c.in-Some.found.1 c.loop-found.rest.now in
    record {
      place = omega (arith, len, c.in-Some.ensures.within, c.loop-found.invariant.place);
      left = on g.T.Processor.instructions g.T.Processor.fits g.met.T.Processor.prefix_free c.args.bytes.now c.args.first c.args.text.now
          c.loop-found.rest.now c.loop-found.at c.loop-found.text c.in-Some.found.0 c.in-Some.found.1 c.behind-rest.result.now
          c.push_instr.new.text c.loop-found.invariant.left c.in-Some.ensures.some c.behind-rest.ensures c.in_ok-push_instr.ensures;
    }

pub returns : goal.returns
returns g c =
    done g.T.Processor.instructions g.T.Processor.fits c.args.bytes.now c.args.first c.args.text.now c.loop-found.rest.now c.loop-found.at
    c.loop-found.text c.loop-found.invariant.left (c.in_default.ensures.none refl)

use Rattle.std.proofs.Common.{◌≡◌, ◌-◌, length, sym, ap, ◌∙◌, subst, length-drop, arith}
use Rattle.std.proofs.lemmas.Bool.{eqb-true}
use Rattle.std.proofs.lemmas.List.{nil_from_length}
use Rattle.text_dis.specs.Raw.{IsRaw}
use Rattle.text_dis.proofs.RawLemmas.{begun_next, begun_ends}
use Rattle.text_dis.proofs.code.raw.Goals as goal

pub loop-rest-preserved : goal.loop-rest-preserved
loop-rest-preserved g c =
    let left : length c.behind-rest.result.now ≡ length c.loop-rest.rest.now - c.in_ok-len.len =
    ap length c.behind-rest.ensures ∙ length-drop c.in_ok-len.len c.loop-rest.rest.now in
    record {
      within = omega (arith, left, c.loop-rest.invariant.within);
      begun = begun_next g.T.Processor.instructions g.T.Processor.fits g.T.Processor.QUANTUM c.args.bytes.now c.loop-rest.rest.now
          c.behind-rest.result.now c.loop-rest.text _ c.in_ok-len.len c.in_ok-len.ensures.line c.behind-rest.ensures
          c.in_ok-len.ensures.within c.loop-rest.invariant.within c.loop-rest.invariant.begun;
    }

pub returns : goal.returns
returns g c =
    let set = g.T.Processor.instructions in
    let none = nil_from_length c.loop-rest.rest.now (eqb-true _ _ (sym c.loop-rest-test.ensures)) in
    subst (λ text. IsRaw set g.T.Processor.fits g.T.Processor.QUANTUM 0 c.args.bytes.now text) (sym c.finish.ensures)
    (begun_ends set g.T.Processor.fits g.T.Processor.QUANTUM c.args.bytes.now c.loop-rest.rest.now c.loop-rest.text none
    c.loop-rest.invariant.begun)

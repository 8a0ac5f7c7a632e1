use Rattle.std.proofs.Common.{length, refl, sym, ap, ◌∙◌, arith}
use Rattle.std.proofs.lemmas.Option.{slice_get_read, slice_get_within}
use Rattle.asm_target.specs.declared.body.Placed.{Placed}
use Rattle.link_code.proofs.PositionLemmas.{one_elsewhere}
use Rattle.link_code.proofs.positions.number_at.Goals as goal

pub loop-number-preserved : goal.loop-number-preserved
loop-number-preserved g c =
    let code = c.args.code.now in
    let one = c.index-code-number.result in
    let here = slice_get_read code (length code) c.loop-number.number one refl c.loop-number-test.true c.index-code-number.is in
    one_elsewhere code c.args.address c.loop-number.number one here
    (λ same. c.if-code-number.false (ap (λ (x : Placed _). x.at) (sym c.index-code-number.is) ∙ same)) c.loop-number.invariant

pub returns-then-code-number-clause-some : goal.returns-then-code-number-clause-some
returns-then-code-number-clause-some g c =
    let code = c.args.code.now in
    let one = c.index-code-number.result in (
      one,
      slice_get_read code (length code) c.loop-number.number one refl c.loop-number-test.true c.index-code-number.is,
      ap (λ (x : Placed _). x.at) c.index-code-number.is ∙ c.if-code-number.true,
    )

pub returns-clause-none : goal.returns-clause-none
returns-clause-none g c = λ none number one here.
    let within = slice_get_within c.args.code.now number one here in
    let end = c.loop-number-test.false in
    c.loop-number.invariant number one (omega (arith, within, end)) here

use Rattle.std.proofs.Common.{◌∙◌, arith}
use Rattle.machine_dump.proofs.DigitLemmas.{grown, fits, next_value}
use Rattle.machine_dump.proofs.digits.number.Goals as goal

pub overflow_mul-value : goal.overflow_mul-value
overflow_mul-value c =
    let all = fits c.loop-glyph.value 0 c.loop-glyph.glyph-index c.loop-glyph.invariant.fits (omega arith)
    (omega (arith, c.loop-glyph-test.true, c.requires)) in
    omega (arith, all)

pub overflow_add-value : goal.overflow_add-value
overflow_add-value c =
    let all = fits c.loop-glyph.value c.from.result c.loop-glyph.glyph-index c.loop-glyph.invariant.fits
    (omega (arith, c.from.ensures, c.digit_of.ensures.small)) (omega (arith, c.loop-glyph-test.true, c.requires)) in
    omega (arith, all)

pub loop-glyph-preserved : goal.loop-glyph-preserved
loop-glyph-preserved c = record {
  fits = grown c.loop-glyph.value c.from.result c.loop-glyph.glyph-index c.loop-glyph.invariant.fits
      (omega (arith, c.from.ensures, c.digit_of.ensures.small));
  value = next_value c.args.digits.now c.loop-glyph.value c.from.result c.loop-glyph.glyph-index
      (omega (arith, c.loop-glyph-test.true)) (c.from.ensures ∙ c.digit_of.ensures.value) c.loop-glyph.invariant.value;
}

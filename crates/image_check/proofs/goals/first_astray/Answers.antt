use Rattle.std.proofs.Common.{length, refl, sym, arith}
use Rattle.std.proofs.lemmas.Option.{slice_get_read}
use Rattle.image_check.specs.Surrounding.{range_of}
use Rattle.image_check.proofs.GoalLemmas.{all_kept, none_first, one_more}
use Rattle.image_check.proofs.goals.first_astray.Goals as goal

pub loop-number-init : goal.loop-number-init
loop-number-init g c = none_first g.T.Processor.instructions (range_of c.args.text) c.args.symbols.now c.args.code.now

pub loop-number-preserved : goal.loop-number-preserved
loop-number-preserved g c =
    let code = c.args.code.now in
    let one = c.index-code-number.result in
    let here = slice_get_read code (length code) c.loop-number.number one refl c.loop-number-test.true c.index-code-number.is in
    one_more g.T.Processor.instructions (range_of c.args.text) c.args.symbols.now code c.loop-number.number one here
    (sym c.if-goes_astray.ensures) c.loop-number.invariant

pub returns-clause-none : goal.returns-clause-none
returns-clause-none g c =
    let end = c.loop-number-test.false in
    all_kept g.T.Processor.instructions (range_of c.args.text) c.args.symbols.now c.args.code.now c.loop-number.number (omega arith)
    c.loop-number.invariant

pub returns-then-goes_astray-clause-first : goal.returns-then-goes_astray-clause-first
returns-then-goes_astray-clause-first g c =
    let code = c.args.code.now in
    let one = c.index-code-number.result in
    record {
      position = c.loop-number.number;
      one = one;
      here = slice_get_read code (length code) c.loop-number.number one refl c.loop-number-test.true c.index-code-number.is;
      astray = sym c.if-goes_astray.ensures;
      at = refl;
      before = c.loop-number.invariant;
    }

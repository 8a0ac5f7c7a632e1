use Rattle.std.proofs.Common.{length, refl, sym, arith}
use Rattle.std.proofs.lemmas.Option.{slice_get_read}
use Rattle.link_code.specs.Astray.{range_of}
use Rattle.link_code.proofs.AstrayLemmas.{all_kept, one_kept}
use Rattle.link_code.proofs.astray.find_astray.Goals as goal

pub loop-number-preserved : goal.loop-number-preserved
loop-number-preserved g c =
    let code = c.args.code.now in
    let one = c.index-code-number.result in
    let here = slice_get_read code (length code) c.loop-number.number one refl c.loop-number-test.true c.index-code-number.is in
    one_kept g.T.Processor.instructions (range_of c.args.text) c.args.symbols.now code c.loop-number.number one here
    (sym c.if-is_astray.ensures) c.loop-number.invariant

pub returns-clause-none : goal.returns-clause-none
returns-clause-none g c =
    let end = c.loop-number-test.false in
    all_kept g.T.Processor.instructions (range_of c.args.text) c.args.symbols.now c.args.code.now c.loop-number.number (omega arith)
    c.loop-number.invariant

pub returns-then-is_astray-clause-first : goal.returns-then-is_astray-clause-first
returns-then-is_astray-clause-first g c =
    let code = c.args.code.now in
    let one = c.index-code-number.result in
    record {
      one = one;
      here = slice_get_read code (length code) c.loop-number.number one refl c.loop-number-test.true c.index-code-number.is;
      astray = sym c.if-is_astray.ensures;
      before = c.loop-number.invariant;
    }

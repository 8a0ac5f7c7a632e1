use Rattle.std.proofs.Common.{◌≡◌, Bool, true, ap, sym, ◌∙◌, arith}
use Rattle.std.specs.Prelude.{◌&&◌}
use Rattle.std.specs.List.{list_all}
use Rattle.asm_parse.specs.Words.{are_words, has_words}
use Rattle.asm_parse.proofs.Loops.{goes_on, is_done}
use Rattle.asm_parse.proofs.words.are_words.Goals as goal

pub loop-operand-preserved : goal.loop-operand-preserved
loop-operand-preserved g c = λ word tells.
    let yes : has_words word c.operand-item.result ≡ true = sym (c.has_words.ensures word tells) ∙ c.if-not-has_words.false in
    goes_on (λ (s : Bool) rest. are_words word rest) c.args.operands.now c.loop-operand.operand-index (are_words word c.args.operands.now) true true c.operand-item.result
    (c.loop-operand.invariant word tells) c.loop-operand-test.true c.operand-item.is (λ rest. ap (λ (b : Bool). b && list_all (has_words word) rest) yes)

pub returns : goal.returns
returns g c = λ word tells.
    is_done (λ (s : Bool) rest. are_words word rest) c.args.operands.now c.loop-operand.operand-index (are_words word c.args.operands.now) true (c.loop-operand.invariant word tells) (omega (arith, c.loop-operand-test.false))

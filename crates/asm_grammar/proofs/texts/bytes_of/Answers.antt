use Rattle.std.proofs.Common.{◌≡◌, ◌<◌, length, arith}
use Rattle.std.proofs.lemmas.Bool.Decides.{nat_tests}
use Rattle.asm_grammar.proofs.TextLemmas.{goes_on, is_done}
use Rattle.asm_grammar.proofs.texts.bytes_of.Goals as goal

pub loop-rest-preserved : goal.loop-rest-preserved
loop-rest-preserved c =
    let some : 0 < length c.loop-rest.rest.now = grind (arith, nat_tests, c.is_empty.ensures, c.loop-rest-test.true) in
    goes_on _ _ c.loop-rest.rest.now _ c.first_byte.result c.first_len.result _ c.loop-rest.invariant some c.first_len.ensures.len c.first_len.ensures.some c.first_byte.ensures c.behind_or_empty-rest.ensures c.in_ok-push.ensures.items

pub returns : goal.returns
returns c =
    let none : length c.loop-rest.rest.now ≡ 0 = grind (arith, nat_tests, c.is_empty.ensures, c.loop-rest-test.false) in
    rw c.new.ensures (is_done _ c.loop-rest.rest.now _ c.loop-rest.invariant none)

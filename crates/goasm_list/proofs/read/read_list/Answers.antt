use Rattle.std.proofs.Common.{◌≡◌, ◌<◌, length, arith}
use Rattle.std.proofs.lemmas.Bool.Decides.{nat_tests}
use Rattle.std.proofs.lemmas.Result.{err_from_is_err_and}
use Rattle.goasm_list.proofs.ListLemmas.{reached_none, reached_next, reached_refused, reached_all}
use Rattle.goasm_list.proofs.NumberLemmas.{list_within}
use Rattle.goasm_list.proofs.read.read_list.Goals as goal

pub loop-rest-init : goal.loop-rest-init
loop-rest-init c = rw c.new-reader.ensures (reached_none c.args.bytes.now)

pub returns-in_err-reader-clause-exact : goal.returns-in_err-reader-clause-exact
returns-in_err-reader-clause-exact c =
    let some : 0 < length c.loop-rest.rest.now = grind (arith, nat_tests) in
    let fault = err_from_is_err_and c.from_residual.result c.from_residual.ensures.1 in
    rw (fault.1, fault.2)
    (reached_refused _ _ _ _ _ _ c.loop-rest.invariant some c.split_at_first.ensures.before c.in_err-reader.ensures)

pub loop-rest-preserved : goal.loop-rest-preserved
loop-rest-preserved c =
    let some : 0 < length c.loop-rest.rest.now = grind (arith, nat_tests) in
    reached_next _ _ _ _ _ _ _ c.loop-rest.invariant some c.split_at_first.ensures.before c.split_at_first.ensures.behind
    c.in_ok-reader.ensures

pub returns-clause-exact : goal.returns-clause-exact
returns-clause-exact c =
    let all : length c.loop-rest.rest.now ≡ 0 = grind (arith, nat_tests) in
    (reached_all _ _ _ _ c.loop-rest.invariant all).0

pub returns-clause-lines : goal.returns-clause-lines
returns-clause-lines c =
    let all : length c.loop-rest.rest.now ≡ 0 = grind (arith, nat_tests) in
    rw (c.new.ensures, c.finish.ensures.lines) ((reached_all _ _ _ _ c.loop-rest.invariant all).1)

pub returns-clause-numbers : goal.returns-clause-numbers
returns-clause-numbers c =
    let all : length c.loop-rest.rest.now ≡ 0 = grind (arith, nat_tests) in
    rw (c.new.ensures, c.finish.ensures.lines, (reached_all _ _ _ _ c.loop-rest.invariant all).1) (list_within c.args.bytes.now)
